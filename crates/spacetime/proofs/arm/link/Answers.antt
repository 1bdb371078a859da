-- `link` meets its contract: by what its calls ensure.
use mathlib.Core.Path.{ap, ◌∙◌}
use Rattle.geometry.specs.declared.quaternion.Quat.{Quat}
use Rattle.spacetime.specs.Link.{offset_of, turned_by}
use Rattle.spacetime.specs.Turns.{link-made}
use Rattle.spacetime.proofs.arm.link.Goals as goal

pub returns : goal.returns
returns c =
    link-made c.args.kind c.args.d c.args.o c.args.v c.args.p c.moved.result c.extended.result c.turned-q.result c.moved.ensures c.extended.ensures
    (c.turned-q.ensures
    ∙ ap (λ (z : Quat). turned_by c.args.kind z c.args.t) c.offset.ensures
    ∙ ap (turned_by c.args.kind (offset_of c.args.p.rotation c.args.o)) c.requires)
