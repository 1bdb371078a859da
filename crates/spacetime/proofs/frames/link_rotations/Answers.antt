use mathlib.Core.Path.{◌≡◌, ap, ◌∙◌}
use Prim.Native.Nat.{◌+◌, ◌*◌}
use native.Mathlib.Omega.{arith}
use lib.ListN.{length}
use Rattle.lists.specs.Splice.{splice}
use Rattle.lists.specs.Runs.{runs, length_runs, splice-none, splice-more}
use Rattle.geometry.specs.declared.quaternion.Quat.{Quat}
use Rattle.spacetime.specs.Floats.{flat_quat}
use Rattle.spacetime.specs.Walk.{list_pose}
use Rattle.spacetime.specs.Frames.{rotation_at, rotation-length, rotation-list}
use Rattle.spacetime.proofs.frames.link_rotations.Goals as goal

pub loop-i-init : goal.loop-i-init
loop-i-init c = splice-none (rotation_at (list_pose _)) _ _ _

pub loop-i-preserved : goal.loop-i-preserved
loop-i-preserved c =
    let r = c.args.poses.now in
    let f = c.args.from in
    let i = c.loop-i.i in
    let n : length (runs (rotation_at (list_pose r)) f i) ≡ i * 4 = length_runs (rotation_at (list_pose r)) 4 (rotation-length (list_pose r)) f i in
    splice-more (rotation_at (list_pose r)) c.args.out.now c.loop-i.out _ c.args.at (c.args.at + 4 * i) f i c.loop-i.invariant (omega arith)
    (omega arith)
    (c.put_quat.ensures ∙ ap (λ (v : Quat). splice c.loop-i.out (c.args.at + 4 * i) (flat_quat v)) c.get_quat-q.ensures
    ∙ ap (splice c.loop-i.out (c.args.at + 4 * i)) (rotation-list r (f + i)))
