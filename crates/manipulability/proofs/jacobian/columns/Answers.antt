use mathlib.Core.Path.{◌≡◌, ap, ◌∙◌}
use Prim.Native.Nat.{◌+◌, ◌-◌}
use native.Mathlib.Omega.{arith}
use lib.ListN.{length}
use Rattle.geometry.specs.declared.pose.Pose.{Pose}
use Rattle.manipulability.specs.View.{seen_by}
use Rattle.sheet.specs.Chain.{joints_in}
use Rattle.manipulability.specs.Jacobian.{Filling, filling_of, after_of, jacobian_of, start-made, start-length, axes-all, after-made, column-room}
use Rattle.manipulability.proofs.jacobian.columns.Goals as goal

pub loop-link-init : goal.loop-link-init
loop-link-init c =
    let z : c.args.first - c.args.first ≡ 0 = omega arith in
    rw z (omega arith, start-made _ _ _ _ c.zero.result c.args.j.now c.zero.ensures c.requires.axes_value.1)

pub step-s-requires : goal.step-s-requires
step-s-requires c =
    let a = c.args in
    let cs = a.codes.now in
    let f = a.first in
    let i = c.loop-link.link - f in
    let z : f + i ≡ c.loop-link.link = omega arith in
    let k = ap (λ (s : Filling). s.column) c.loop-link.invariant.1 in
    let n = ap length c.requires.axes_value.0 in
    let m = ap length c.requires.axes_value.1 in
    let room = rw z at (column-room (seen_by a.poses) cs f a.end i (omega arith)) in record {
      link_in_bounds = omega (arith, k, n, room);
      axes_in_bounds = omega (arith, n, m, start-length (joints_in cs f a.end), axes-all cs f a.end c.requires.part.0.order);
    }

pub loop-link-preserved : goal.loop-link-preserved
loop-link-preserved c =
    let a = c.args in
    let i = c.loop-link.link - a.first in
    let z : a.first + i ≡ c.loop-link.link = omega arith in
    let more : c.loop-link.link + 1 - a.first ≡ i + 1 = omega arith in
    rw more (
      omega arith,
      after-made (seen_by a.poses) a.codes.now a.first a.end i c.pose-p.result c.pose-last.result.position a.axes.now (filling_of c.loop-link.s c.loop-link.j) _
          (rw z c.pose-p.ensures) (ap (λ (q : Pose). q.position) c.pose-last.ensures) c.requires.axes_value.0 c.loop-link.invariant.1 (rw z c.step-s.ensures),
    )

pub returns : goal.returns
unfolding jacobian_of
returns c =
    let a = c.args in
    let e : c.loop-link.link - a.first ≡ a.end - a.first - 1 = omega arith in
    ap (λ (z : Filling). z.matrix) (c.loop-link.invariant.1 ∙ ap (after_of (seen_by a.poses) a.codes.now a.first a.end) e)
