-- How many objectives an accepted sheet has: at most 131, those of one chain of 16 joints with tolerances.
use Rattle.std.specs.Prelude.{◌≡◌, Bool, true, false, List}
use Rattle.std.proofs.Math.Path.{refl, ap}
use Rattle.std.proofs.Common.{sym, ◌∙◌, suc-mul, mul_comm}
use Rattle.std.proofs.Math.Logic.{⊎_elim}
use Prim.Native.Nat.{ℕ, zero, suc, ◌+◌, ◌-◌, ◌*◌, ◌≤◌, ◌<◌}
use Rattle.std.proofs.Math.Nat.{mul-le-mul_left}
use Rattle.std.proofs.Math.Numerals.{add-one}
use native.Mathlib.Omega.{arith}
use Rattle.std.proofs.Math.ListN.{length, get_or}
use Rattle.lists.specs.Runs.{runs}
use Rattle.sheet.specs.Chain.{total, chain_start, chain-start-next, chain-start-total, joint_of, joints, joint-zero, joint-last, joint-mono, below_or, chain_length}
use Rattle.task.specs.declared.picks.Picks.{Picks}
use Rattle.manipulability.specs.Jacobian.{Counted, chain-part}
use Rattle.self_collision.specs.Pairs.{chain_pairs, all_pairs, first_arm, chain_lengths, triangle, count-more, chain-count, lengths-count}
use Rattle.objective_master.specs.Objective.{goal_width, picked_list, objectives, objective_count, count}
use Rattle.objective_master.specs.Losses.{lengths-total}

-- ---- laws

-- the count by chains, joints and pairs
pub count-is : (p : Picks) (ns cs : List ℕ) (j s : ℕ) → total ns ≡ length cs → j ≡ joint_of cs (chain_start ns (length ns)) → s ≡ length (runs (chain_pairs first_arm (chain_lengths ns cs)) 0 (length ns))
    → length ns * goal_width p.strict + j + 4 + s ≡ objective_count p ns cs
unfolding all_pairs
count-is p ns cs j s w e₁ e₂ =
    let n : length (chain_lengths ns cs) ≡ length ns = lengths-count ns cs in
    let m : joint_of cs (chain_start ns (length ns)) ≡ joints cs = ap (joint_of cs) (chain-start-total ns ∙ w) ∙ joint-last cs in
    let q : length (runs (chain_pairs first_arm (chain_lengths ns cs)) 0 (length ns)) ≡ length (all_pairs first_arm (chain_lengths ns cs)) =
    ap (λ (k : ℕ). length (runs (chain_pairs first_arm (chain_lengths ns cs)) 0 k)) (sym n) in
    omega (arith, count (picked_list p) (chain_lengths ns cs), ap (λ (k : ℕ). k * goal_width p.strict) n, lengths-total ns cs w)

-- a chain's goal has at most six
pub width-most : (strict : Bool) → goal_width strict ≤ 6
unfolding goal_width
width-most true = omega arith
width-most false = omega arith

-- the strict list has four fewer a chain
pub strict-shorter : (lens : List ℕ) → length (objectives (picked_list (record { strict = true })) lens) + 4 * length lens ≡ length (objectives (picked_list (record { strict = false })) lens)
unfolding goal_width
strict-shorter lens = omega (arith, count (picked_list (record { strict = true })) lens, count (picked_list (record { strict = false })) lens)

triangle-twice : (m : ℕ) → 2 * triangle m ≡ m * suc m
unfolding triangle
triangle-twice zero = refl
triangle-twice (suc m) = omega (arith, triangle-twice m, suc-mul m (suc (suc m)), mul_comm m (suc (suc m)), suc-mul (suc m) m, suc-mul m m, mul_comm m (suc m))

-- 16 joints at most, so 15/2 pairs a joint past the second
few-pairs : (n : ℕ) → 2 ≤ n → n ≤ 16 → 2 * triangle (n - 2) + 30 ≤ 15 * n
few-pairs n a b =
    let m : ℕ = n - 2 in
    let l : m * suc m ≤ m * 15 = mul-le-mul_left m (omega arith) in
    omega (arith, triangle-twice m)

module _ (ns cs : List ℕ) (s : Counted ns cs) (two : (c : ℕ) → c < length ns → 2 ≤ chain_length ns cs c) where
  length_most : (c : ℕ) → c < length ns → chain_length ns cs c ≤ 16
  unfolding chain_length
  length_most c h =
      let e : chain_start ns (c + 1) ≡ chain_start ns c + get_or ns c 0 = chain-start-next ns c in
      omega (arith, (chain-part ns cs c (chain_start ns c) s h refl).few, ap (joint_of cs) e)

  joint-more-chain : (c : ℕ) → joint_of cs (chain_start ns (suc c)) ≡ joint_of cs (chain_start ns c) + chain_length ns cs c
  unfolding chain_length
  joint-more-chain c =
      let e : chain_start ns (c + 1) ≡ chain_start ns (suc c) = rw add-one in
      omega (arith, ap (joint_of cs) e, joint-mono cs (chain_start ns c) (chain_start ns (c + 1)) (omega (arith, chain-start-next ns c)))

  few-to : (c : ℕ) → c ≤ length ns → 2 * length (runs (chain_pairs first_arm (chain_lengths ns cs)) 0 c) + 30 * c ≤ 15 * joint_of cs (chain_start ns c)
  unfolding runs
  few-to zero h = omega arith
  few-to (suc c) h =
      let l : c < length ns = omega arith in
      let n : ℕ = chain_length ns cs c in
      let most : n ≤ 16 = length_most c l in
      omega (arith, few-to c (omega arith), few-pairs n (two c l) most, chain-count ns cs c l first_arm n refl, more c, joint-more-chain c)
    where
      more : (c : ℕ) → length (runs (chain_pairs first_arm (chain_lengths ns cs)) 0 (suc c)) ≡ length (runs (chain_pairs first_arm (chain_lengths ns cs)) 0 c) + length (chain_pairs first_arm (chain_lengths ns cs) c)
      more c = rw add-one at (count-more (chain_pairs first_arm (chain_lengths ns cs)) c)

  pub objectives-few : (p : Picks) → objective_count p ns cs ≤ 131
  unfolding chain_start
  objectives-few p =
      let w : length ns * goal_width p.strict ≤ length ns * 6 = mul-le-mul_left (length ns) (width-most p.strict) in
      let c = count-is p ns cs (joint_of cs (chain_start ns (length ns))) (length (runs (chain_pairs first_arm (chain_lengths ns cs)) 0 (length ns))) s.whole refl refl in
      let m : joint_of cs (chain_start ns (length ns)) ≡ joints cs = ap (joint_of cs) (chain-start-total ns ∙ s.whole) ∙ joint-last cs in
      let f = few-to (length ns) (omega arith) in
      ⊎_elim
      (λ (b : 0 < length ns). omega (arith, c, f, m, s.few))
      (λ (b : length ns ≤ 0).
      let z : length ns ≡ 0 = omega arith in
      let j : joint_of cs (chain_start ns (length ns)) ≡ 0 = ap (λ (k : ℕ). joint_of cs (chain_start ns k)) z ∙ joint-zero cs in
      omega (arith, c, f, j))
      (below_or 0 (length ns))
