-- `room_loss` meets its contract: by computation.
use mathlib.Core.Path.{refl}
use lib.Ieee.{of_int, of_bits}
use Rattle.groove.specs.Loss.{room_loss}
use Rattle.groove.proofs.objective.room_loss.Goals as goal

pub returns : goal.returns
unfolding room_loss of_bits of_int
returns c = refl
