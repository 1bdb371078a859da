use mathlib.Core.Path.{◌≡◌, refl, sym, ap, ◌∙◌}
use mathlib.Core.List.{List}
use Prim.Native.Nat.{ℕ, ◌+◌, ◌-◌, ◌≤◌, ◌<◌}
use native.Mathlib.Omega.{arith}
use lib.ListN.{length, get_or}
use Rattle.lists.specs.Runs.{runs, runs_none}
use Rattle.sheet.specs.Chain.{chain_start, chain-start-next, joint_of, joint-zero, joint-mono, joint-last, chain_length}
use Rattle.sheet.specs.ChainTurn.{length-here}
use Rattle.manipulability.specs.Jacobian.{Part, Counted, chain-part}
use Rattle.self_collision.specs.Pairs.{chain_pairs, first_arm, chain_lengths, count-more, chain-count}
use Rattle.objective_master.specs.Count.{count-is}
use Rattle.objective_master.proofs.count.objective_count.Goals as goal

-- the joints before a chain's end are few
joints-few : (ns cs : List ℕ) (k l next : ℕ) → Counted ns cs → Part cs l (l + get_or ns k 0) → next ≡ joint_of cs (l + get_or ns k 0) → next ≤ 16
joints-few ns cs k l next s part e = omega (arith, joint-mono cs (l + get_or ns k 0) (length cs) part.within, joint-last cs, s.few)

pub loop-count-init : goal.loop-count-init
unfolding chain_start
loop-count-init c = (refl, sym (joint-zero _), omega arith, sym (ap length (runs_none (chain_pairs first_arm (chain_lengths c.args.counts.now c.args.codes.now)) 0)), omega arith)

pub overflow_add-end : goal.overflow_add-end
overflow_add-end c =
    let part = chain-part c.args.counts.now c.args.codes.now c.loop-count.count-index c.loop-count.l c.requires.0 (omega arith) c.loop-count.invariant.0 in
    omega arith

pub joint_number-next-requires : goal.joint_number-next-requires
joint_number-next-requires c = (chain-part c.args.counts.now c.args.codes.now c.loop-count.count-index c.loop-count.l c.requires.0 (omega arith) c.loop-count.invariant.0).within

pub overflow_sub-next : goal.overflow_sub-next
overflow_sub-next c =
    let a = c.args in
    omega (arith, joint-mono a.codes.now c.loop-count.l (c.loop-count.l + get_or a.counts.now c.loop-count.count-index 0) (omega arith))

pub pair_count-s-requires : goal.pair_count-s-requires
pair_count-s-requires c =
    let a = c.args in
    let k = c.loop-count.count-index in
    let part = chain-part a.counts.now a.codes.now k c.loop-count.l c.requires.0 (omega arith) c.loop-count.invariant.0 in
    let few = joints-few a.counts.now a.codes.now k c.loop-count.l c.joint_number-next.result c.requires.0 part c.joint_number-next.ensures in
    omega arith

pub loop-count-preserved : goal.loop-count-preserved
loop-count-preserved c =
    let ns = c.args.counts.now in
    let cs = c.args.codes.now in
    let k = c.loop-count.count-index in
    let i = c.loop-count.invariant in
    let h : k < length ns = omega arith in
    let part = chain-part ns cs k c.loop-count.l c.requires.0 h i.0 in
    let n : ℕ = c.joint_number-next.result - c.loop-count.joint in
    let e : n ≡ chain_length ns cs k = length-here ns cs k c.loop-count.l i.0 c.loop-count.joint c.joint_number-next.result (i.1 ∙ ap (joint_of cs) i.0) c.joint_number-next.ensures in (
      ap (λ (m : ℕ). m + get_or ns k 0) i.0 ∙ sym (chain-start-next ns k),
      c.joint_number-next.ensures,
      joints-few ns cs k c.loop-count.l c.joint_number-next.result c.requires.0 part c.joint_number-next.ensures,
      omega (arith, c.pair_count-s.ensures.0, i.3, count-more (chain_pairs first_arm (chain_lengths ns cs)) k, chain-count ns cs k h first_arm n e),
      omega (arith, c.pair_count-s.ensures.1, i.4),
    )

pub returns : goal.returns
returns c =
    let ns = c.args.counts.now in
    let cs = c.args.codes.now in
    let i = c.loop-count.invariant in
    let e : c.loop-count.count-index ≡ length ns = omega arith in
    ap (λ (k : ℕ). k + c.loop-count.joint + 4 + c.loop-count.s) c.goals_to.ensures.0
    ∙ count-is c.args.picks ns cs c.loop-count.joint c.loop-count.s c.requires.0.whole (i.1 ∙ ap (joint_of cs) (i.0 ∙ ap (chain_start ns) e))
    (i.3 ∙ ap (λ (k : ℕ). length (runs (chain_pairs first_arm (chain_lengths ns cs)) 0 k)) e)
