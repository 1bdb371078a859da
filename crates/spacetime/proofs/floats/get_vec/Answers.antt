-- `get_vec` meets its contract: float after float.
use mathlib.Core.Path.{refl}
use Rattle.spacetime.specs.Floats.{vec_at}
use Rattle.spacetime.proofs.floats.get_vec.Goals as goal

pub returns : goal.returns
unfolding vec_at
returns c = refl
