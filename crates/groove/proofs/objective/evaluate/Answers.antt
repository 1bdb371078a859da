-- `evaluate` meets its contract: each case is the loss of its name.
use Rattle.groove.specs.Loss.{evaluate_of}
use Rattle.groove.proofs.objective.evaluate.Goals as goal

pub returns-in-Groove : goal.returns-in-Groove
unfolding evaluate_of
returns-in-Groove c = rw c.in-Groove.is c.groove_loss.ensures

pub returns-in-SwampGroove : goal.returns-in-SwampGroove
unfolding evaluate_of
returns-in-SwampGroove c = rw c.in-SwampGroove.is c.swamp_groove_loss.ensures

pub returns-in-Swamp : goal.returns-in-Swamp
unfolding evaluate_of
returns-in-Swamp c = rw c.in-Swamp.is c.swamp_loss.ensures

pub returns-in-FixedCost : goal.returns-in-FixedCost
unfolding evaluate_of
returns-in-FixedCost c = rw c.in-FixedCost.is
