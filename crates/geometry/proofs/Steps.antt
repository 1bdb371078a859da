-- Laws of the determinant's steps: the pivot's row, one turn of each loop, and what is left after a step.
use mathlib.Core.Path.{◌≡◌, refl, sym, ap, ◌∙◌}
use mathlib.Core.Bool.{Bool, true, false, cond}
use mathlib.Core.Logic.{⊎_elim}
use mathlib.Core.List.{List}
use Prim.Native.Nat.{ℕ, suc, ◌+◌, ◌-◌, ◌≤◌, ◌<◌}
use native.Mathlib.Omega.{arith}
use lib.Dec.{eqb, ltb}
use lib.Ieee.{Float, lt, eq}
use lib.ListN.{length}
use borrow.Author.Tests.{lt-ltb, le-ltb, eq-eqb, ne_eqb}
use Rattle.standins.specs.Num.{nought, abs_of}
use Rattle.geometry.specs.Matrix.{entry, matrix_of, put, in_row, larger_of, largest_of, pivot_row_of, other_row, swap_of, swap_count, eliminated_of, eliminate_of, diagonal_of, signed_of, steps_of}
use Rattle.geometry.proofs.Tables.{same_or, matrix-is, Rewritten, by_column, by_row, rewritten-none, columns-turn, rows-turn}

-- ---- the pivot's row
pub largest-none : (m : List Float) (k : ℕ) → k ≡ largest_of m k (k + 1 - k - 1)
unfolding largest_of
largest-none m k = let z : k + 1 - k - 1 ≡ 0 = omega arith in rw z

pub largest-more : (m : List Float) (k p i r : ℕ) → k < i → p ≡ largest_of m k (i - k - 1) → r ≡ larger_of m k p i → r ≡ largest_of m k (i + 1 - k - 1)
unfolding largest_of
largest-more m k p i r h e q =
    let n : i + 1 - k - 1 ≡ suc (i - k - 1) = omega arith in
    let l : k + suc (i - k - 1) ≡ i = omega arith in
    rw (n, l) (q ∙ ap (λ (z : ℕ). larger_of m k z i) e)

pub larger-below : (m : List Float) (k p i : ℕ) → p < 6 → i < 6 → larger_of m k p i < 6
unfolding larger_of
larger-below m k p i hp hi = pick (lt (abs_of (entry m p k)) (abs_of (entry m i k)))
  where
    pick : (t : Bool) → cond t i p < 6
    pick true = hi
    pick false = hp

-- ---- rows k and p swapped, column by column
abbrev pub swapped : List Float → ℕ → ℕ → ℕ → ℕ → Float
swapped m k p i j = entry m (other_row k p i) j

other-same : (k i : ℕ) → other_row k k i ≡ i
unfolding other_row
other-same k i = ⊎_elim (λ (e : i ≡ k). rw (eq-eqb i k e) (sym e)) (λ (e : i ≡ k → ⊥). rw (ne_eqb i k e)) (same_or i k)

pub swap-none : (m : List Float) (k p : ℕ) → length m ≡ 36 → k ≡ p → m ≡ swap_of m k p
unfolding swap_of
swap-none m k p l e =
    matrix-is (swapped m k p) m l
    (λ i j hi hj. ap (λ (z : ℕ). entry m z j) (sym (ap (λ (z : ℕ). other_row k z i) (sym e) ∙ other-same k i)))

other-first : (k p : ℕ) → other_row k p k ≡ p
unfolding other_row
other-first k p = rw (eq-eqb k k refl)

other-second : (k p : ℕ) → other_row k p p ≡ k
unfolding other_row
other-second k p =
    ⊎_elim (λ (e : p ≡ k). rw (eq-eqb p k e) e) (λ (e : p ≡ k → ⊥). rw (ne_eqb p k e, eq-eqb p p refl)) (same_or p k)

other-rest : (k p i : ℕ) → (i ≡ k → ⊥) → (i ≡ p → ⊥) → other_row k p i ≡ i
unfolding other_row
other-rest k p i a b = rw (ne_eqb i k a, ne_eqb i p b)

-- one turn of the loop that swaps them
pub swap-turn : (m : List Float) {cur : List Float} (k p : ℕ) {c : ℕ} → k < 6 → p < 6 → c < 6 → Rewritten by_column (swapped m k p) m c cur
    → Rewritten by_column (swapped m k p) m (c + 1) (put (put cur k c (entry cur p c)) p c (entry cur k c))
swap-turn m {cur} k p {c} hk hp hc w =
    columns-turn w k p (entry cur p c) (entry cur k c) hk hp hc
    (w.ahead p c hp hc (omega arith) ∙ at (other-first k p)) (w.ahead k c hk hc (omega arith) ∙ at (other-second k p)) (λ i a b. at (other-rest k p i a b))
  where
    at : {a b : ℕ} → a ≡ b → entry m b c ≡ entry m a c
    at q = ap (λ (z : ℕ). entry m z c) (sym q)

-- ---- the rows below k lose, row by row
abbrev pub lost : List Float → ℕ → ℕ → ℕ → Float
lost m k r j = cond (ltb k r) (eliminated_of m k r j) (entry m r j)

module _ (m : List Float) (k : ℕ) where
  -- the rows up to k, the pivot's with them, stay
  kept : (r j : ℕ) → r ≤ k → lost m k r j ≡ entry m r j
  kept r j b = rw (le-ltb k r b)

  -- the loop begins in the row below k
  pub lose-none : length m ≡ 36 → Rewritten by_row (lost m k) m (k + 1) m
  lose-none l = rewritten-none (k + 1) l (λ r j b. sym (kept r j (omega arith)))

  -- one turn: row i loses
  pub lose-row : {cur : List Float} (i : ℕ) → k < i → i < 6 → Rewritten by_row (lost m k) m i cur → Rewritten by_row (lost m k) m (i + 1) (matrix_of (in_row cur i (eliminated_of cur k i)))
  unfolding eliminated_of
  lose-row {cur} i hk hi w =
      rows-turn w (eliminated_of cur k i) (λ j hj. rw (lt-ltb k i hk, stay j hj, stay k (omega arith), pivot k (omega arith), pivot j hj))
    where
      stay : (j : ℕ) → j < 6 → entry cur i j ≡ entry m i j
      stay j hj = w.ahead i j hi hj (omega arith)

      pivot : (j : ℕ) → j < 6 → entry cur k j ≡ entry m k j
      pivot j hj = w.behind k j (omega arith) hj hk ∙ kept k j (omega arith)

-- ---- what is left from column k on
pub count_most : (k p : ℕ) → swap_count k p ≤ 1
unfolding swap_count
count_most k p = pick (eqb k p)
  where
    pick : (t : Bool) → cond t 0 1 ≤ 1
    pick true = omega arith
    pick false = omega arith

module _ (m : List Float) (swaps k p : ℕ) (d : Float) (e : p ≡ pivot_row_of m k) (left : steps_of m swaps k (6 - k) ≡ d) where
  pub steps-zero : k < 6 → eq (entry m p k) nought ≡ true → nought ≡ d
  unfolding steps_of
  steps-zero h z =
      let n : 6 - k ≡ suc (5 - k) = omega arith in
      let z' : eq (entry m (pivot_row_of m k) k) nought ≡ true = rw e at z in
      sym (rw (n, z')) ∙ left

  pub steps-turn : (r : ℕ) (a b : List Float) → k < 6 → eq (entry m p k) nought ≡ false → r ≡ swap_count k p → a ≡ swap_of m k p → b ≡ eliminate_of a k
      → steps_of b (swaps + r) (k + 1) (6 - (k + 1)) ≡ d
  unfolding steps_of
  steps-turn r a b h z er ea eb =
      let n : 6 - k ≡ suc (6 - (k + 1)) = omega arith in
      let z' : eq (entry m (pivot_row_of m k) k) nought ≡ false = rw e at z in
      let more : steps_of m swaps k (6 - k) ≡ steps_of (eliminate_of (swap_of m k (pivot_row_of m k)) k) (swaps + swap_count k (pivot_row_of m k)) (k + 1) (6 - (k + 1)) = rw (n, z') in
      cc

pub steps-done : (m : List Float) (swaps k : ℕ) (d : Float) → 6 ≤ k → steps_of m swaps k (6 - k) ≡ d → signed_of swaps (diagonal_of m) ≡ d
unfolding steps_of
steps-done m swaps k d h left = let n : 6 - k ≡ 0 = omega arith in rw n at left
