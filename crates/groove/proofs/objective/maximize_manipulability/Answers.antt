-- `maximize_manipulability` meets its contract: its loss, evaluated.
use Rattle.groove.specs.Loss.{maximize_manipulability}
use Rattle.groove.proofs.objective.maximize_manipulability.Goals as goal

pub returns : goal.returns
unfolding maximize_manipulability
returns c = rw (c.evaluate.ensures, c.manipulability_loss.ensures)
