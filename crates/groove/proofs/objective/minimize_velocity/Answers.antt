-- `minimize_velocity` meets its contract: its loss, evaluated.
use Rattle.groove.specs.Loss.{minimize_velocity}
use Rattle.groove.proofs.objective.minimize_velocity.Goals as goal

pub returns : goal.returns
unfolding minimize_velocity
returns c = rw (c.evaluate.ensures, c.change_loss.ensures)
