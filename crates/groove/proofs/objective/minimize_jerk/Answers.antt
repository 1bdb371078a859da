-- `minimize_jerk` meets its contract: its loss, evaluated.
use Rattle.groove.specs.Loss.{minimize_jerk}
use Rattle.groove.proofs.objective.minimize_jerk.Goals as goal

pub returns : goal.returns
unfolding minimize_jerk
returns c = rw (c.evaluate.ensures, c.change_loss.ensures)
