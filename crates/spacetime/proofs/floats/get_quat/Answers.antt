-- `get_quat` meets its contract: float after float.
use mathlib.Core.Path.{refl}
use Rattle.spacetime.specs.Floats.{quat_at}
use Rattle.spacetime.proofs.floats.get_quat.Goals as goal

pub returns : goal.returns
unfolding quat_at
returns c = refl
