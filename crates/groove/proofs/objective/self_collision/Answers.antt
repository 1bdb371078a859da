-- `self_collision` meets its contract: its loss, evaluated.
use Rattle.groove.specs.Loss.{self_collision}
use Rattle.groove.proofs.objective.self_collision.Goals as goal

pub returns : goal.returns
unfolding self_collision
returns c = rw (c.evaluate.ensures, c.pair_loss.ensures)
