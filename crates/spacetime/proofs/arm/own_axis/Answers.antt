-- `own_axis` meets its contract: by what its two calls ensure.
use mathlib.Core.Path.{ap, ◌∙◌}
use Rattle.geometry.specs.Quaternion.{rotate_of}
use Rattle.spacetime.specs.Link.{own_axis_of}
use Rattle.spacetime.proofs.arm.own_axis.Goals as goal

pub returns : goal.returns
unfolding own_axis_of
returns c = c.rotate.ensures ∙ ap (rotate_of _) c.along.ensures
