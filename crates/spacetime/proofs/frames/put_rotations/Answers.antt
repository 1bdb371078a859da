use mathlib.Core.Path.{◌≡◌, refl, sym, ap, ◌∙◌}
use mathlib.Core.List.{List}
use Prim.Native.Nat.{ℕ, ◌+◌, ◌*◌}
use native.Mathlib.Omega.{arith}
use lib.Ieee.{Float}
use lib.ListN.{length, get_or}
use Rattle.lists.specs.Splice.{splice}
use Rattle.lists.specs.Runs.{runs, splice-none, splice-turn-at}
use Rattle.geometry.specs.declared.pose.Pose.{Pose}
use Rattle.sheet.specs.Chain.{chain_start, chain-start-next, chain-start-mono, chain-start-total}
use Rattle.spacetime.specs.Walk.{list_pose}
use Rattle.spacetime.specs.Frames.{rotations_from, chain_rotations, rotations_of, rotations-length, chain-within}
use Rattle.spacetime.proofs.frames.put_rotations.Goals as goal

-- what a turn writes is the chain's piece
made : (ns : List ℕ) (P : ℕ → Pose) (out : List Float) (at k from : ℕ) → from ≡ chain_start ns k
    → splice out at (rotations_from P from (get_or ns k 0)) ≡ splice out at (chain_rotations ns P k)
unfolding chain_rotations
made ns P out at k from e = ap (λ (f : ℕ). splice out at (rotations_from P f (get_or ns k 0))) e

pub loop-c-init : goal.loop-c-init
unfolding chain_start
loop-c-init c = (refl, splice-none (chain_rotations _ (list_pose _)) _ 0 0)

pub overflow_add-from : goal.overflow_add-from
overflow_add-from c = omega (arith, chain-within c.args.counts.now c.loop-c.c (omega arith))

pub overflow_mul-from : goal.overflow_mul-from
overflow_mul-from c = omega (arith, chain-within c.args.counts.now c.loop-c.c (omega arith))

pub chain_rotations-requires : goal.chain_rotations-requires
chain_rotations-requires c = (c.requires.chains.some c.loop-c.c (omega arith), omega (arith, chain-within c.args.counts.now c.loop-c.c (omega arith)), omega (arith, chain-within c.args.counts.now c.loop-c.c (omega arith), chain-start-mono c.args.counts.now (c.loop-c.c + 1) (length c.args.counts.now) (omega arith), chain-start-next c.args.counts.now c.loop-c.c, chain-start-total c.args.counts.now))

pub overflow_add-from-in-loop-c : goal.overflow_add-from-in-loop-c
overflow_add-from-in-loop-c c = omega (arith, chain-within c.args.counts.now c.loop-c.c (omega arith))

pub loop-c-preserved : goal.loop-c-preserved
loop-c-preserved c =
    let ns = c.args.counts.now in
    let P = list_pose c.args.poses.now in
    let k = c.loop-c.c in
    let n : length (runs (chain_rotations ns P) 0 k) ≡ 4 * (chain_start ns k + 2 * k) = rotations-length ns P k in
    let piece : c.chain_rotations.new.out ≡ splice c.loop-c.out (4 * (c.loop-c.from + 2 * k)) (chain_rotations ns P k) =
    c.chain_rotations.ensures ∙ made ns P c.loop-c.out (4 * (c.loop-c.from + 2 * k)) k c.loop-c.from c.loop-c.invariant.0 in (
      ap (λ (m : ℕ). m + get_or ns k 0) c.loop-c.invariant.0 ∙ sym (chain-start-next ns k),
      splice-turn-at (chain_rotations ns P) c.args.out.now c.loop-c.out _ 0 (4 * (c.loop-c.from + 2 * k)) k c.loop-c.invariant.1
          (omega (arith, c.loop-c.invariant.0)) (omega (arith, c.requires, chain-within ns k (omega arith))) piece,
    )

pub returns : goal.returns
unfolding rotations_of
returns c =
    let e : c.loop-c.c ≡ length c.args.counts.now = omega arith in
    c.loop-c.invariant.1 ∙ ap (λ (k : ℕ). splice c.args.out.now 0 (runs (chain_rotations c.args.counts.now (list_pose c.args.poses.now)) 0 k)) e
