-- `slope` meets its contract: case by case.
use Rattle.gradient.specs.Slopes.{slope_by}
use Rattle.gradient.proofs.slopes.slope.Goals as goal

pub returns-in-EachLoss : goal.returns-in-EachLoss
unfolding slope_by
returns-in-EachLoss c = rw c.in-EachLoss.is c.weighted_slope.ensures

pub returns-in-WeightedSum : goal.returns-in-WeightedSum
unfolding slope_by
returns-in-WeightedSum c = rw (c.in-WeightedSum.is, c.weighted_sum.ensures)
