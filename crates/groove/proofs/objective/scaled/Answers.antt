-- `scaled` meets its contract: by computation.
use mathlib.Core.Path.{refl}
use Rattle.groove.specs.Loss.{scaled_of}
use Rattle.groove.proofs.objective.scaled.Goals as goal

pub returns : goal.returns
unfolding scaled_of
returns c = refl
