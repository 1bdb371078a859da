-- `chain_rotations` meets its contract: three runs that touch are one.
use mathlib.Core.Path.{◌≡◌, ap, ◌∙◌}
use mathlib.Core.List.{List, ◌++◌, append_assoc}
use Prim.Native.Nat.{◌+◌, ◌-◌, ◌*◌}
use native.Mathlib.Omega.{arith}
use lib.Ieee.{Float}
use lib.ListN.{length, length-append}
use Rattle.lists.specs.Splice.{splice, splice-splice}
use Rattle.lists.specs.Runs.{runs, length_runs}
use Rattle.geometry.specs.declared.quaternion.Quat.{Quat}
use Rattle.geometry.specs.Quaternion.{identity_of}
use Rattle.geometry.specs.Pose.{origin_of}
use Rattle.spacetime.specs.Floats.{flat_quat, quat-length}
use Rattle.spacetime.specs.Walk.{list_pose}
use Rattle.spacetime.specs.Frames.{rotation_at, rotations_from, rotation-length, rotation-list}
use Rattle.spacetime.proofs.frames.chain_rotations.Goals as goal

pub returns : goal.returns
unfolding rotations_from origin_of
returns c =
    let a = c.args in
    let P = list_pose a.poses.now in
    let i : List Float = flat_quat identity_of in
    let r : List Float = runs (rotation_at P) a.from a.n in
    let e : List Float = rotation_at P (a.from + a.n - 1) in
    let li : length i ≡ 4 = quat-length identity_of in
    let lr : length r ≡ a.n * 4 = length_runs (rotation_at P) 4 (rotation-length P) a.from a.n in
    let lir : length (i ++ r) ≡ 4 + a.n * 4 = length-append i r ∙ omega arith in
    let first : c.put_quat.new.l ≡ splice a.out.now a.at i = c.put_quat.ensures ∙ ap (λ (q : Quat). splice a.out.now a.at (flat_quat q)) c.identity.ensures in
    let middle : c.link_rotations.new.out ≡ splice a.out.now a.at (i ++ r) =
    c.link_rotations.ensures ∙ ap (λ (l : List Float). splice l (a.at + 4) r) first
    ∙ splice-splice a.out.now a.at (a.at + 4) i r (omega arith) (omega (arith, c.requires)) in
    c.put_quat-2.ensures
    ∙ ap (λ (q : Quat). splice c.link_rotations.new.out (a.at + 4 + 4 * a.n) (flat_quat q)) c.get_quat-last.ensures
    ∙ ap (splice c.link_rotations.new.out (a.at + 4 + 4 * a.n)) (rotation-list a.poses.now (a.from + a.n - 1))
    ∙ ap (λ (l : List Float). splice l (a.at + 4 + 4 * a.n) e) middle
    ∙ splice-splice a.out.now a.at (a.at + 4 + 4 * a.n) (i ++ r) e (omega arith) (omega (arith, c.requires))
    ∙ ap (splice a.out.now a.at) (append_assoc i r e)
