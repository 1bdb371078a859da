-- `closest n d`, the whole number nearest to n / d: within a half of it, even at a half, and so no whole number is nearer.
use Rattle.std.specs.Prelude.{◌≡◌, ◌⊎◌, Bool, true, false, not, T, eqb, leb}
use Rattle.std.proofs.Common.{ap, ◌∙◌, subst, inl, inr, mod-lt, suc-mul, div-add-mod', le_refl, le_trans, div-lt_iff_lt-mul, arith, leb→le, eqb→eq}
use Prim.Native.Nat.{ℕ, zero, suc, ◌+◌, ◌*◌, ◌/◌, ◌%◌, ◌≤◌, ◌<◌, compare, Ordering}
use Rattle.std.proofs.Math.Nat.{add-mul-div_right, add-mul-mod_self_right}
use Rattle.std.proofs.Math.Arith.{lt_of_le-ne}
use Rattle.std.proofs.Math.Dec.{is_le, compare_is_eq, eqb_refl, nleb→lt}
use Rattle.std.specs.Float.Ieee.{nearest}
use Rattle.std.specs.Float.Ieee.Fits.{nearest-le}
use Rattle.std.specs.Float.Ieee.Nearest.{closest}

-- ---- what `compare` says
abbrev Cmp : Ordering → ℕ → ℕ → Type 0
Cmp Ordering.lt a b = a < b
Cmp Ordering.eq a b = a ≡ b
Cmp Ordering.gt a b = b < a

cmp : (a b : ℕ) → Cmp (compare a b) a b
cmp a b = go (compare a b) (leb→le a b) (nleb→lt a b) (eqb→eq a b) (λ (e : a ≡ b). subst (λ (x : ℕ). T (eqb a x)) e (eqb_refl a))
  where
    go : (o : Ordering) → (T (is_le o) → a ≤ b) → (T (not (is_le o)) → b < a) → (T (compare_is_eq o) → a ≡ b) → (a ≡ b → T (compare_is_eq o)) → Cmp o a b
    go Ordering.lt h k e n = lt_of_le-ne (h tt) n
    go Ordering.eq h k e n = e tt
    go Ordering.gt h k e n = k tt

-- ---- within a half of n / d, and even where it is a half away
pub record Halves (n d k : ℕ) : Type 0 where
  pub over : 2 * (k * d) ≤ 2 * n + d
  pub under : 2 * n ≤ 2 * (k * d) + d
  pub even-over : 2 * (k * d) ≡ 2 * n + d → k % 2 ≡ 0
  pub even-under : 2 * n ≡ 2 * (k * d) + d → k % 2 ≡ 0

even-or-odd : (w : ℕ) → (w + w % 2 ≡ w) ⊎ (w + w % 2 ≡ suc w)
even-or-odd w = go (w % 2) (lt w)
  where
    lt : (w : ℕ) → w % 2 < 2
    lt w = omega arith

    go : (r : ℕ) → r < 2 → (w + r ≡ w) ⊎ (w + r ≡ suc w)
    go zero h = inl (omega arith)
    go (suc zero) h = inr (omega arith)
    go (suc (suc r)) h = absurd (no r h)
      where
        no : (r : ℕ) → suc (suc r) < 2 → ⊥
        no r h = omega arith

halves_of : (n d w r : ℕ) (o : Ordering) → w * d + r ≡ n → Cmp o (r * 2) d → r < d → Halves n d (nearest w o)
halves_of n d w r Ordering.lt e c h = record { over = omega arith; under = omega arith; even-over = λ x. omega (arith, x); even-under = λ x. omega (arith, x) }
halves_of n d w r Ordering.eq e c h =
    let even : (w + w % 2) % 2 ≡ 0 = twice w in
    go (even-or-odd w) even
  where
    twice : (w : ℕ) → (w + w % 2) % 2 ≡ 0
    twice w = omega arith

    go : (w + w % 2 ≡ w) ⊎ (w + w % 2 ≡ suc w) → (w + w % 2) % 2 ≡ 0 → Halves n d (w + w % 2)
    go (inl z) even = let m : (w + w % 2) * d ≡ w * d = ap (λ (x : ℕ). x * d) z in record { over = omega arith; under = omega arith; even-over = λ x. even; even-under = λ x. even }
    go (inr z) even = let m : (w + w % 2) * d ≡ w * d + d = ap (λ (x : ℕ). x * d) z ∙ suc-mul w d in record { over = omega arith; under = omega arith; even-over = λ x. even; even-under = λ x. even }
halves_of n d w r Ordering.gt e c h = let m = suc-mul w d in record { over = omega arith; under = omega arith; even-over = λ x. omega (arith, x, m); even-under = λ x. omega (arith, x, m) }

pub closest-halves : (n d : ℕ) → 0 < d → Halves n d (closest n d)
closest-halves n d D = halves_of n d (n / d) (n % d) (compare (n % d * 2) d) (div-add-mod' n d) (cmp (n % d * 2) d) (mod-lt n D)

-- a whole number
pub closest-one : (n : ℕ) → closest n 1 ≡ n
closest-one n = let h = closest-halves n 1 (le_refl 1) in same (closest n 1) n h.over h.under
  where
    same : (k n : ℕ) → 2 * (k * 1) ≤ 2 * n + 1 → 2 * n ≤ 2 * (k * 1) + 1 → k ≡ n
    same k n a b = omega arith

-- at most what bounds n / d
pub closest-le : (n d b : ℕ) → 0 < d → n < b * d → closest n d ≤ b
closest-le n d b D h = le_trans (nearest-le (n / d) (compare (n % d * 2) d)) ((div-lt_iff_lt-mul D).1 h)

-- ---- no whole number is nearer
pub sorted : (j k : ℕ) → (j ≡ k) ⊎ ((j < k) ⊎ (k < j))
sorted j k = go (leb j k) (leb→le j k) (nleb→lt j k) (eqb j k) (eqb→eq j k) (λ (e : j ≡ k). subst (λ (x : ℕ). T (eqb j x)) e (eqb_refl j))
  where
    go : (b : Bool) → (T b → j ≤ k) → (T (not b) → k < j) → (c : Bool) → (T c → j ≡ k) → (j ≡ k → T c) → (j ≡ k) ⊎ ((j < k) ⊎ (k < j))
    go b l g true e n = inl (e tt)
    go true l g false e n = inr (inl (lt_of_le-ne (l tt) n))
    go false l g false e n = inr (inr (g tt))

-- ---- 2 ^ 52 more, which is even
shifted : (q : ℕ) (o : Ordering) → nearest (q + 4503599627370496) o ≡ 4503599627370496 + nearest q o
shifted q Ordering.lt = omega arith
shifted q Ordering.eq = omega arith
shifted q Ordering.gt = omega arith

pub closest-shifted : (n d : ℕ) → 0 < d → closest (n + 4503599627370496 * d) d ≡ 4503599627370496 + closest n d
closest-shifted n d D =
    ap (λ (q : ℕ). nearest q (compare ((n + 4503599627370496 * d) % d * 2) d)) (add-mul-div_right n 4503599627370496 D)
    ∙ ap (λ (r : ℕ). nearest (n / d + 4503599627370496) (compare (r * 2) d)) (add-mul-mod_self_right n 4503599627370496 d)
    ∙ shifted (n / d) (compare (n % d * 2) d)
