use mathlib.Core.Path.{◌≡◌, refl, sym, ap, ◌∙◌}
use Prim.Native.Nat.{◌+◌, ◌-◌}
use native.Mathlib.Omega.{arith}
use lib.ListN.{length}
use Rattle.lists.specs.Splice.{splice, splice-nil, length-splice}
use Rattle.manipulability.specs.Jacobian.{axis_piece, piece-length, axes-none, axes-count, axes-turn, axes-room, axes-front}
use Rattle.manipulability.proofs.jacobian.joint_axes.Goals as goal

pub loop-link-init : goal.loop-link-init
loop-link-init c =
    let z : c.args.first - c.args.first ≡ 0 = omega arith in
    rw z (omega arith, sym (ap length (axes-none _ _)), refl, sym (ap (splice _ 0) (axes-none _ _) ∙ splice-nil _ 0))

pub put_axis-joint-requires : goal.put_axis-joint-requires
put_axis-joint-requires c =
    let a = c.args in
    let i = c.loop-link.link - a.first in
    let z : a.first + i ≡ c.loop-link.link = omega arith in
    let room = rw z at (axes-room a.codes.now a.first a.end i c.requires (omega arith)) in
    (omega arith, omega (arith, c.loop-link.invariant.1, room), c.loop-link.invariant.2)

pub loop-link-preserved : goal.loop-link-preserved
loop-link-preserved c =
    let a = c.args in
    let cs = a.codes.now in
    let f = a.first in
    let i = c.loop-link.link - f in
    let z : f + i ≡ c.loop-link.link = omega arith in
    let more : c.loop-link.link + 1 - f ≡ i + 1 = omega arith in
    let room = rw z at (axes-room cs f a.end i c.requires (omega arith)) in
    let count = rw z at (axes-count cs f i) in
    rw more (
      omega arith,
      omega (arith, c.put_axis-joint.ensures.0, c.loop-link.invariant.1, count),
      ap length c.put_axis-joint.ensures.1 ∙ length-splice c.loop-link.axes c.loop-link.joint (axis_piece cs c.loop-link.link) (omega (arith, room, piece-length cs c.loop-link.link, c.loop-link.invariant.1, c.loop-link.invariant.2)) ∙ c.loop-link.invariant.2,
      axes-turn cs f i _ c.loop-link.axes _ c.loop-link.joint c.loop-link.invariant.3 c.loop-link.invariant.1 (omega (arith, c.loop-link.invariant.1, c.loop-link.invariant.2, room)) (rw z c.put_axis-joint.ensures.1),
    )

pub returns : goal.returns
returns c =
    let a = c.args in
    axes-front a.codes.now a.first a.end (c.loop-link.link - a.first) _ c.loop-link.axes c.requires.order (omega arith) c.loop-link.invariant.3
