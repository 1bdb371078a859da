use mathlib.Core.Path.{◌≡◌, refl, sym, ap, ◌∙◌}
use mathlib.Core.List.{List}
use Prim.Native.Nat.{ℕ, ◌+◌, ◌-◌, ◌*◌}
use native.Mathlib.Omega.{arith}
use lib.Ieee.{Float}
use lib.ListN.{length, get_or}
use Rattle.lists.specs.Splice.{splice}
use Rattle.lists.specs.Runs.{runs, length_runs, splice-none, splice-turn-at}
use Rattle.geometry.specs.declared.pose.Pose.{Pose}
use Rattle.sheet.specs.Chain.{chain_start, chain-start-next}
use Rattle.spacetime.specs.Floats.{pose_at, flat}
use Rattle.spacetime.specs.Walk.{list_pose}
use Rattle.spacetime.specs.Tool.{tip_of}
use Rattle.spacetime.specs.Frames.{chain_end, ends_of, end-length, chain-within}
use Rattle.spacetime.proofs.frames.put_ends.Goals as goal

-- what a turn writes is the chain's end pose
made : (ns : List ℕ) (ts r out : List Float) (at k from : ℕ) → from ≡ chain_start ns k
    → splice out at (flat (tip_of ts k (pose_at r (7 * (from + get_or ns k 0 - 1))))) ≡ splice out at (chain_end ns ts (list_pose r) k)
unfolding chain_end list_pose
made ns ts r out at k from e = ap (λ (f : ℕ). splice out at (flat (tip_of ts k (pose_at r (7 * (f + get_or ns k 0 - 1)))))) e

pub loop-c-init : goal.loop-c-init
unfolding chain_start
loop-c-init c = (refl, splice-none (chain_end _ _ (list_pose _)) _ 0 0)

pub overflow_add-from : goal.overflow_add-from
overflow_add-from c = omega (arith, c.requires.chains.0.some c.loop-c.c (omega arith), chain-within c.args.counts.now c.loop-c.c (omega arith))

pub overflow_mul-from : goal.overflow_mul-from
overflow_mul-from c = omega (arith, c.requires.chains.0.some c.loop-c.c (omega arith), chain-within c.args.counts.now c.loop-c.c (omega arith))

pub get-last-requires : goal.get-last-requires
get-last-requires c = omega (arith, c.requires.chains.0.some c.loop-c.c (omega arith), chain-within c.args.counts.now c.loop-c.c (omega arith))

pub loop-c-preserved : goal.loop-c-preserved
loop-c-preserved c =
    let ns = c.args.counts.now in
    let ts = c.args.tools.now in
    let r = c.args.poses.now in
    let k = c.loop-c.c in
    let f = chain_end ns ts (list_pose r) in
    let n : length (runs f 0 k) ≡ k * 7 = length_runs f 7 (end-length ns ts (list_pose r)) 0 k in (
      ap (λ (m : ℕ). m + get_or ns k 0) c.loop-c.invariant.0 ∙ sym (chain-start-next ns k),
      splice-turn-at f c.args.out.now c.loop-c.out _ 0 (7 * k) k c.loop-c.invariant.1 (omega arith) (omega arith)
          (c.put.ensures
          ∙ ap (λ (p : Pose). splice c.loop-c.out (7 * k) (flat p)) (c.tip.ensures ∙ ap (tip_of ts k) c.get-last.ensures)
          ∙ made ns ts r c.loop-c.out (7 * k) k c.loop-c.from c.loop-c.invariant.0),
    )

pub returns : goal.returns
unfolding ends_of
returns c =
    let e : c.loop-c.c ≡ length c.args.counts.now = omega arith in
    c.loop-c.invariant.1 ∙ ap (λ (k : ℕ). splice c.args.out.now 0 (runs (chain_end c.args.counts.now c.args.tools.now (list_pose c.args.poses.now)) 0 k)) e
