-- `tip` meets its contract: without a tool the pose as it is, else the link step of a fixed link.
use mathlib.Core.Path.{sym, ap₂, ◌∙◌}
use Rattle.standins.specs.Num.{nought}
use Rattle.geometry.specs.declared.vector.Vec3.{Vec3}
use Rattle.geometry.specs.declared.quaternion.Quat.{Quat}
use Rattle.sheet.specs.declared.code.Kind.TheVariants.{Fixed}
use Rattle.spacetime.specs.Link.{joint_turn, link_of}
use Rattle.spacetime.specs.Tool.{tip_of}
use Rattle.spacetime.proofs.tool.tip.Goals as goal

pub returns-then-not-has_tool : goal.returns-then-not-has_tool
unfolding tip_of
returns-then-not-has_tool c = rw (sym c.has_tool.ensures ∙ c.if-not-has_tool.true)

pub link-requires : goal.link-requires
unfolding joint_turn
link-requires c = c.identity.ensures

pub returns : goal.returns
unfolding tip_of
returns c =
    let p = c.args.p in
    rw (sym c.has_tool.ensures ∙ c.if-not-has_tool.false)
    (c.link.ensures ∙ ap₂ (λ (d : Vec3) (o : Quat). link_of Fixed d o nought p) c.get_vec-d.ensures c.get_quat-o.ensures)
