-- `gram` meets its contract: by what its calls ensure of the decoded list.
use mathlib.Core.Path.{ap, ◌∙◌}
use Rattle.geometry.specs.Matrix.{gram_of}
use Rattle.replay.proofs.leaves.gram.Goals as goal

pub returns : goal.returns
returns c = c.gram.ensures ∙ ap gram_of c.floats-n.ensures.held
