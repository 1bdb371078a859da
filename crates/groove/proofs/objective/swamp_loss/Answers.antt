-- `swamp_loss` meets its contract: from what the two calls ensure.
use Rattle.groove.specs.Loss.{swamp_loss}
use Rattle.groove.proofs.objective.swamp_loss.Goals as goal

pub returns : goal.returns
unfolding swamp_loss
returns c = rw (c.bounds_penalty.ensures, c.scaled-x.ensures)
