-- `manipulability_loss` meets its contract: by computation.
use mathlib.Core.Path.{refl}
use Rattle.groove.specs.Loss.{manipulability_loss}
use Rattle.groove.proofs.objective.manipulability_loss.Goals as goal

pub returns : goal.returns
unfolding manipulability_loss
returns c = refl
