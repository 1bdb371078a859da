-- `swamp_groove_loss` meets its contract: from what the three calls ensure.
use Rattle.groove.specs.Loss.{swamp_groove_loss}
use Rattle.groove.proofs.objective.swamp_groove_loss.Goals as goal

pub returns : goal.returns
unfolding swamp_groove_loss
returns c = rw (c.bounds_penalty.ensures, c.exp.ensures, c.scaled-x.ensures)
