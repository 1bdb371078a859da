-- `determinant` meets its contract: by what its calls ensure.
use mathlib.Core.Path.{ap, ◌∙◌}
use Rattle.geometry.specs.Matrix.{determinant_of}
use Rattle.replay.proofs.leaves.determinant.Goals as goal

pub returns : goal.returns
returns c = c.determinant.ensures ∙ ap determinant_of c.floats.ensures
