-- `groove_loss` meets its contract: from what `exp` ensures.
use Rattle.groove.specs.Loss.{groove_loss}
use Rattle.groove.proofs.objective.groove_loss.Goals as goal

pub returns : goal.returns
unfolding groove_loss
returns c = rw c.exp.ensures
