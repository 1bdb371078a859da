-- The code of `negative` is its definition, operation by operation.
use mathlib.Core.Path.{refl}
use Rattle.objective_master.specs.Strict.{negative_of}
use Rattle.objective_master.proofs.strict.negative.Goals as goal

pub returns : goal.returns
unfolding negative_of
returns c = refl
