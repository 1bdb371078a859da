-- `strict_loss` meets its contract: by computation.
use mathlib.Core.Path.{refl}
use lib.Ieee.{of_int, of_bits}
use Rattle.groove.specs.Loss.{strict_loss}
use Rattle.groove.proofs.objective.strict_loss.Goals as goal

pub returns : goal.returns
unfolding strict_loss of_bits of_int
returns c = refl
