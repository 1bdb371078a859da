-- `step` meets its contract: case by case.
use Rattle.gradient.specs.Slopes.{step_of}
use Rattle.gradient.proofs.slopes.step.Goals as goal

pub returns-in-EachLoss : goal.returns-in-EachLoss
unfolding step_of
returns-in-EachLoss c = rw c.in-EachLoss.is

pub returns-in-WeightedSum : goal.returns-in-WeightedSum
unfolding step_of
returns-in-WeightedSum c = rw c.in-WeightedSum.is
