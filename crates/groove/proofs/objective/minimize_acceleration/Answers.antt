-- `minimize_acceleration` meets its contract: its loss, evaluated.
use Rattle.groove.specs.Loss.{minimize_acceleration}
use Rattle.groove.proofs.objective.minimize_acceleration.Goals as goal

pub returns : goal.returns
unfolding minimize_acceleration
returns c = rw (c.evaluate.ensures, c.change_loss.ensures)
