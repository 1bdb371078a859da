-- Pairs that two walks share: a pair reads no link past its last, so poses that agree that far give it one loss.
use Rattle.std.specs.Prelude.{◌≡◌, refl, Bool}
use Rattle.std.proofs.Math.Path.{sym, ap, subst}
use Rattle.std.proofs.Common.{◌∙◌, get_or-append-add}
use Rattle.std.proofs.Math.Logic.{⊎_elim}
use mathlib.Core.List.{List, ◌++◌}
use Prim.Native.Nat.{ℕ, zero, suc, ◌+◌, ◌-◌, ◌*◌, ◌≤◌, ◌<◌}
use native.Mathlib.Omega.{arith}
use Rattle.std.proofs.Math.ListN.{length, get_or, length-append, get_or-append}
use Rattle.lists.specs.Runs.{runs, get_or-runs}
use Rattle.geometry.specs.declared.pose.Pose.{Pose}
use Rattle.sheet.specs.Chain.{chain_start, below_or}
use Rattle.self_collision.specs.Pairs.{Pair, pair, pair_at, pairs_from, pairs_of, chain_pairs, all_pairs, point_on, link_distance, loss_from, pair_loss, pair_last, row-length}

-- ---- what holds of every pair: its links are j + 2 ≤ k, and k is below the joints of its chain
module _ (Q : Pair → Type 0) where
  each_of : (f : ℕ → List Pair) (n : ℕ) → ((i r : ℕ) → i < n → r < length (f i) → Q (get_or (f i) r (pair 0 0 0)))
      → (i : ℕ) → i < length (runs f 0 n) → Q (get_or (runs f 0 n) i (pair 0 0 0))
  unfolding runs
  each_of f zero each i h = absurd (omega arith)
  each_of f (suc n) each i h =
      let xs : List Pair = runs f 0 n in
      let ys : List Pair = f (0 + n) in
      let len : length (xs ++ ys) ≡ length xs + length ys = length-append xs ys in
      ⊎_elim
      (λ (b : i < length xs). subst Q (sym (get_or-append xs ys (pair 0 0 0) i b)) (each_of f n (λ k r l. each k r (omega arith)) i b))
      (λ (b : length xs ≤ i).
      let e : length xs + (i - length xs) ≡ i = omega arith in
      subst Q (sym (get_or-append-add xs ys (i - length xs) (pair 0 0 0)) ∙ ap (λ (k : ℕ). get_or (xs ++ ys) k (pair 0 0 0)) e) (each (0 + n) (i - length xs) (omega arith) (omega arith)))
      (below_or i (length xs))

  row-each : (arm n j : ℕ) → ((k : ℕ) → j + 2 ≤ k → k < n → Q (pair arm j k))
      → (r : ℕ) → r < length (pairs_from (pair arm) n j) → Q (get_or (pairs_from (pair arm) n j) r (pair 0 0 0))
  unfolding pairs_from
  row-each arm n j each r h =
      let e : r * 1 + 0 ≡ r = omega arith in
      let m : ℕ = n - (j + 2) in
      let l : r < m = omega (arith, row-length (pair arm) n j) in
      let row : List Pair = runs (pair_at (pair arm) j) (j + 2) m in
      let g : pair arm j (j + 2 + r) ≡ get_or row r (pair 0 0 0) =
      sym (get_or-runs (pair_at (pair arm) j) 1 (λ i. refl) (j + 2) m r 0 (pair 0 0 0) l (omega arith)) ∙ ap (λ (i : ℕ). get_or row i (pair 0 0 0)) e in
      subst Q g (each (j + 2 + r) (omega arith) (omega arith))

  pub pairs-each : (arms : ℕ → ℕ) (lens : List ℕ) → ((c j k : ℕ) → c < length lens → j + 2 ≤ k → k < get_or lens c 0 → Q (pair (arms c) j k))
      → (i : ℕ) → i < length (all_pairs arms lens) → Q (get_or (all_pairs arms lens) i (pair 0 0 0))
  unfolding all_pairs chain_pairs pairs_of
  pairs-each arms lens each =
      each_of (chain_pairs arms lens) (length lens)
      (λ c r h.
      let n : ℕ = get_or lens c 0 in
      each_of (pairs_from (pair (arms c)) n) (n - 2) (λ j k l. row-each (arms c) n j (λ k' a b. each c j k' h a b) k) r)

-- ---- poses that agree
point-ext : (P Q : ℕ → Pose) (f i : ℕ) → ((l : ℕ) → l < f + i → P l ≡ Q l) → point_on P f i ≡ point_on Q f i
unfolding point_on
point-ext P Q f zero same = refl
point-ext P Q f (suc i) same = ap (λ (p : Pose). p.position) (same (f + i) (omega arith))

loss-ext : (P Q : ℕ → Pose) (f : ℕ) (b : Bool) (j k : ℕ) → j < k → ((l : ℕ) → l ≤ f + k → P l ≡ Q l) → loss_from P f b j k ≡ loss_from Q f b j k
unfolding loss_from link_distance
loss-ext P Q f b j k h same =
    let e₁ : point_on P f j ≡ point_on Q f j = point-ext P Q f j (λ l m. same l (omega arith)) in
    let e₂ : point_on P f (j + 1) ≡ point_on Q f (j + 1) = point-ext P Q f (j + 1) (λ l m. same l (omega arith)) in
    let e₃ : point_on P f k ≡ point_on Q f k = point-ext P Q f k (λ l m. same l (omega arith)) in
    let e₄ : point_on P f (k + 1) ≡ point_on Q f (k + 1) = point-ext P Q f (k + 1) (λ l m. same l (omega arith)) in
    rw (e₁, e₂, e₃, e₄)

-- a pair whose last link is below from has one loss in two walks that agree below from
pub skipped : (ns : List ℕ) (P Q : ℕ → Pose) (b : Bool) (from : ℕ) → ((l : ℕ) → l < from → P l ≡ Q l)
    → (p : Pair) → p.first < p.second → pair_last ns p < from → pair_loss ns P b p ≡ pair_loss ns Q b p
unfolding pair_loss pair_last
skipped ns P Q b from same p h k = loss-ext P Q (chain_start ns p.arm) b p.first p.second h (λ l m. same l (omega arith))
