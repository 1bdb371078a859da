use mathlib.Core.Path.{◌≡◌, refl, sym, ap, ◌∙◌}
use Prim.Native.Nat.{ℕ, ◌+◌, ◌*◌}
use native.Mathlib.Omega.{arith}
use lib.ListN.{length, get_or}
use Rattle.geometry.specs.declared.pose.Pose.{Pose}
use Rattle.lists.specs.Splice.{splice}
use Rattle.lists.specs.Runs.{runs, length_runs, splice-start-at, splice-turn-at}
use Rattle.sheet.specs.Chain.{joints_of, first-zero, joint-zero, joint-more, joint-mono, joint-last, joint-le}
use Rattle.spacetime.specs.Walk.{after_link, pose_of, poses, poses-length, frames_of, start-zero, pose-made, flat-made, next-met}
use Rattle.spacetime.proofs.arm.walk.Goals as goal

pub loop-at-init : goal.loop-at-init
loop-at-init c = (sym (joint-zero _), start-zero _ _ _ _ _ (first-zero _), splice-start-at (poses _ _ _ _) _ 0)

pub after_known-p-requires : goal.after_known-p-requires
after_known-p-requires c =
    let ns = c.args.counts.now in
    let cs = c.args.codes.now in
    let gs = c.args.floats.now in
    let x = c.args.block.now in
    let k = c.loop-at.at in
    let made = pose-made ns cs gs x k c.loop-at.joint c.loop-at.p c.start.result (after_link cs gs x c.start.result k c.loop-at.joint) c.loop-at.invariant.1 c.loop-at.invariant.0 c.start.ensures refl in record {
      at_in_bounds = (omega (arith, c.requires), omega (arith, c.requires), omega (arith, c.requires.rotated.room, c));
      at_in_bounds_2 = omega (arith, c.requires, joint-more cs k, joint-mono cs (k + 1) (length cs) (omega arith), joint-last cs);
      at_value = c.requires.rotated.each k (omega arith) ∙ ap (λ (p : Pose). p.rotation) (sym made);
    }

pub next_joint-joint-requires : goal.next_joint-joint-requires
next_joint-joint-requires c = (omega arith, omega (arith, joint-le c.args.codes.now c.loop-at.at))

pub loop-at-preserved : goal.loop-at-preserved
loop-at-preserved c =
    let ns = c.args.counts.now in
    let cs = c.args.codes.now in
    let gs = c.args.floats.now in
    let x = c.args.block.now in
    let k = c.loop-at.at in
    let made : c.after_known-p.result ≡ pose_of ns cs gs x k =
    pose-made ns cs gs x k c.loop-at.joint c.loop-at.p c.start.result c.after_known-p.result c.loop-at.invariant.1 c.loop-at.invariant.0 c.start.ensures c.after_known-p.ensures in
    let n : length (runs (poses ns cs gs x) 0 k) ≡ k * 7 = length_runs (poses ns cs gs x) 7 (poses-length ns cs gs x) 0 k in (
      c.next_joint-joint.ensures ∙ ap (λ (j : ℕ). j + joints_of (get_or cs k 0)) c.loop-at.invariant.0 ∙ sym (joint-more cs k),
      next-met ns cs gs x k c.after_known-p.result made,
      splice-turn-at (poses ns cs gs x) c.args.out.now c.loop-at.out _ 0 (7 * k) k c.loop-at.invariant.2 (omega arith) (omega arith)
          (c.put.ensures ∙ ap (splice c.loop-at.out (7 * k)) (flat-made ns cs gs x k c.after_known-p.result made)),
    )

pub returns : goal.returns
unfolding frames_of
returns c =
    let e : c.loop-at.at ≡ length c.args.codes.now = omega arith in
    c.loop-at.invariant.2 ∙ ap (λ (n : ℕ). splice c.args.out.now 0 (runs (poses c.args.counts.now c.args.codes.now c.args.floats.now c.args.block.now) 0 n)) e
