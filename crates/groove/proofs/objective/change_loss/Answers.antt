-- `change_loss` meets its contract: by computation.
use mathlib.Core.Path.{refl}
use lib.Ieee.{of_int, of_bits}
use Rattle.groove.specs.Loss.{change_loss}
use Rattle.groove.proofs.objective.change_loss.Goals as goal

pub returns : goal.returns
unfolding change_loss of_bits of_int
returns c = refl
