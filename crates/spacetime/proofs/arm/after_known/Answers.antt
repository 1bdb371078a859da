-- `after_known` meets its contract: the rotation that is read is the one after the link.
use mathlib.Core.Path.{◌∙◌}
use Rattle.spacetime.specs.Turns.{pose-known}
use Rattle.spacetime.proofs.arm.after_known.Goals as goal

pub returns : goal.returns
returns c =
    pose-known _ _ _ c.args.p c.args.at c.args.joint c.kind_at-kind.result c.get_vec-d.result c.value-v.result c.moved.result c.extended.result c.get_quat-rotation.result
    c.kind_at-kind.ensures c.get_vec-d.ensures c.value-v.ensures c.moved.ensures c.extended.ensures (c.get_quat-rotation.ensures ∙ c.requires.at_value)
