use mathlib.Core.Path.{◌≡◌, refl, sym, ap, ◌∙◌}
use mathlib.Core.Bool.{Bool}
use mathlib.Core.List.{List, map}
use Prim.Native.Nat.{ℕ, ◌+◌, ◌-◌, ◌≤◌, ◌<◌}
use native.Mathlib.Omega.{arith}
use lib.Ieee.{Float}
use lib.ListN.{length, get_or, length-map}
use Rattle.lists.specs.Splice.{splice}
use Rattle.lists.specs.Runs.{runs, runs_none, runs-fits, splice-none, splice-turn-at}
use Rattle.sheet.specs.Chain.{chain_start, chain-start-next, joint_of, joint-mono, joint-zero, chain_length}
use Rattle.sheet.specs.ChainTurn.{length-here}
use Rattle.geometry.specs.declared.pose.Pose.{Pose}
use Rattle.manipulability.specs.View.{seen_by}
use Rattle.manipulability.specs.Jacobian.{chain-part}
use Rattle.self_collision.specs.Pairs.{pairs_of, chain_pairs, all_pairs, first_arm, chain_lengths, loss_from, pair_loss, pair_last, pair_losses, pair_lasts, CachedPairs, pair-count, map_runs, lengths-count, count-more, cached-turn, view-part, first-start, arm-fits, losses-chain, lasts-chain}
use Rattle.self_collision.proofs.pairs.put_pairs.Goals as goal

-- what the pairs of chain c cost, and their last links
abbrev losses : List ℕ → List ℕ → (ℕ → Pose) → Bool → ℕ → List Float
losses ns cs P b c = map (pair_loss ns P b) (chain_pairs first_arm (chain_lengths ns cs) c)

abbrev lasts : List ℕ → List ℕ → ℕ → List ℕ
lasts ns cs c = map (pair_last ns) (chain_pairs first_arm (chain_lengths ns cs) c)

-- all pairs, chain by chain
by-chains : (ns cs : List ℕ) (P : ℕ → Pose) (b : Bool) (from at : ℕ) (out : List Float)
    → CachedPairs (pair_lasts ns first_arm (chain_lengths ns cs)) (pair_losses ns P first_arm (chain_lengths ns cs) b) from at out
    → CachedPairs (runs (lasts ns cs) 0 (length ns)) (runs (losses ns cs P b) 0 (length ns)) from at out
unfolding pair_lasts pair_losses all_pairs
by-chains ns cs P b from at out s =
    let pairs = chain_pairs first_arm (chain_lengths ns cs) in
    let n = length (chain_lengths ns cs) in
    rw (← lengths-count ns cs, ← map_runs (pair_last ns) pairs 0 n, ← map_runs (pair_loss ns P b) pairs 0 n) s

pub loop-count-init : goal.loop-count-init
unfolding chain_start
loop-count-init c =
    let a = c.args in
    let f = losses a.counts.now a.codes.now (seen_by a.poses) a.any_nan in
    (refl, sym (joint-zero a.codes.now), omega (arith, ap length (runs_none f 0)), splice-none f a.out.now a.at 0)

pub overflow_add-end : goal.overflow_add-end
overflow_add-end c =
    let part = chain-part c.args.counts.now c.args.codes.now c.loop-count.count-index c.loop-count.l c.requires.paired.0.counted (omega arith) c.loop-count.invariant.0 in
    omega arith

pub joint_number-next-requires : goal.joint_number-next-requires
joint_number-next-requires c = (chain-part c.args.counts.now c.args.codes.now c.loop-count.count-index c.loop-count.l c.requires.paired.0.counted (omega arith) c.loop-count.invariant.0).within

pub overflow_sub-next : goal.overflow_sub-next
overflow_sub-next c =
    let a = c.args in
    let cs = a.codes.now in
    omega (arith, joint-mono cs c.loop-count.l (c.loop-count.l + get_or a.counts.now c.loop-count.count-index 0) (omega arith))

pub put_chain-p-requires : goal.put_chain-p-requires
put_chain-p-requires c =
    let a = c.args in
    let ns = a.counts.now in
    let cs = a.codes.now in
    let k = c.loop-count.count-index in
    let i = c.loop-count.invariant in
    let n = c.joint_number-next.result - c.loop-count.joint in
    let count : n ≡ chain_length ns cs k = length-here ns cs k c.loop-count.l i.0 c.loop-count.joint c.joint_number-next.result (i.1 ∙ ap (joint_of cs) i.0) c.joint_number-next.ensures in
    let P = seen_by a.poses in
    let h : k < length ns = omega arith in
    let fits : 0 + n ≤ length cs = omega (arith, count, first-start ns k, arm-fits ns cs k h c.requires.paired.0) in
    let pairs = chain_pairs first_arm (chain_lengths ns cs) in
    let turn : CachedPairs (lasts ns cs k) (losses ns cs P a.any_nan k) a.poses.from c.loop-count.p c.loop-count.out =
    cached-turn (lasts ns cs) (losses ns cs P a.any_nan) (λ i. length-map (pairs i) (pair_last ns) ∙ sym (length-map (pairs i) (pair_loss ns P a.any_nan)))
    a.poses.from a.out.now c.loop-count.out a.at c.loop-count.p 0 (length ns) k k (omega arith) h i.3 i.2 (by-chains ns cs P a.any_nan a.poses.from a.at a.out.now c.requires.cached_pairs) in record {
      view = view-part _ _ _ _ (length cs) (0 + n) c.requires.paired.1 fits;
      cached_pairs = rw (lasts-chain ns cs k h first_arm n count 0 (first-start ns k), losses-chain ns cs k h first_arm n count 0 (first-start ns k) P a.any_nan) at turn;
    }

pub loop-count-preserved : goal.loop-count-preserved
loop-count-preserved c =
    let a = c.args in
    let ns = a.counts.now in
    let cs = a.codes.now in
    let k = c.loop-count.count-index in
    let i = c.loop-count.invariant in
    let n = c.joint_number-next.result - c.loop-count.joint in
    let count : n ≡ chain_length ns cs k = length-here ns cs k c.loop-count.l i.0 c.loop-count.joint c.joint_number-next.result (i.1 ∙ ap (joint_of cs) i.0) c.joint_number-next.ensures in
    let P = seen_by a.poses in
    let f = losses ns cs P a.any_nan in
    let h : k < length ns = omega arith in
    let e : f k ≡ pairs_of (loss_from P 0 a.any_nan) n = losses-chain ns cs k h first_arm n count 0 (first-start ns k) P a.any_nan in (
      ap (λ (m : ℕ). m + get_or ns k 0) i.0 ∙ sym (chain-start-next ns k),
      c.joint_number-next.ensures,
      omega (arith, c.put_chain-p.ensures.value, i.2, count-more f k, ap length e, pair-count (loss_from P 0 a.any_nan) n),
      splice-turn-at f a.out.now c.loop-count.out _ a.at c.loop-count.p k i.3 i.2
          (omega (arith, (by-chains ns cs P a.any_nan a.poses.from a.at a.out.now c.requires.cached_pairs).room, runs-fits f 0 (length ns) k h))
          (c.put_chain-p.ensures.out_after ∙ ap (splice c.loop-count.out c.loop-count.p) (sym e)),
    )

pub returns : goal.returns
unfolding pair_losses all_pairs
returns c =
    let a = c.args in
    let ns = a.counts.now in
    let cs = a.codes.now in
    let P = seen_by a.poses in
    let f = losses ns cs P a.any_nan in
    let e : c.loop-count.count-index ≡ length (chain_lengths ns cs) = omega (arith, lengths-count ns cs) in
    c.loop-count.invariant.3 ∙ ap (λ (m : ℕ). splice a.out.now a.at (runs f 0 m)) e
    ∙ ap (splice a.out.now a.at) (sym (map_runs (pair_loss ns P a.any_nan) (chain_pairs first_arm (chain_lengths ns cs)) 0 (length (chain_lengths ns cs))))
