use mathlib.Core.Path.{◌≡◌, ap, ◌∙◌}
use Prim.Native.Nat.{◌+◌, ◌*◌}
use native.Mathlib.Omega.{arith}
use lib.ListN.{length}
use Rattle.lists.specs.Splice.{splice}
use Rattle.lists.specs.Runs.{runs, length_runs, splice-none, splice-more}
use Rattle.geometry.specs.declared.vector.Vec3.{Vec3}
use Rattle.spacetime.specs.Floats.{flat_vec}
use Rattle.spacetime.specs.Walk.{list_pose}
use Rattle.spacetime.specs.Frames.{position_at, position-length, position-list}
use Rattle.spacetime.proofs.frames.link_positions.Goals as goal

pub loop-i-init : goal.loop-i-init
loop-i-init c = splice-none (position_at (list_pose _)) _ _ _

pub loop-i-preserved : goal.loop-i-preserved
loop-i-preserved c =
    let r = c.args.poses.now in
    let f = c.args.from in
    let i = c.loop-i.i in
    let n : length (runs (position_at (list_pose r)) f i) ≡ i * 3 = length_runs (position_at (list_pose r)) 3 (position-length (list_pose r)) f i in
    splice-more (position_at (list_pose r)) c.args.out.now c.loop-i.out _ c.args.at (c.args.at + 3 * i) f i c.loop-i.invariant (omega arith)
    (omega arith)
    (c.put_vec.ensures ∙ ap (λ (v : Vec3). splice c.loop-i.out (c.args.at + 3 * i) (flat_vec v)) c.get_vec-v.ensures
    ∙ ap (splice c.loop-i.out (c.args.at + 3 * i)) (position-list r (f + i)))
