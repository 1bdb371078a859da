-- `narrow` meets its contract: by computation.
use mathlib.Core.Path.{refl}
use Rattle.groove.specs.Loss.{narrow_of}
use Rattle.groove.proofs.objective.narrow.Goals as goal

pub returns : goal.returns
unfolding narrow_of
returns c = refl
