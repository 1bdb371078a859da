-- Adding 2 ^ 52 to a fraction below it rounds the sum to a whole number, and taking 2 ^ 52 off again is exact.
use mathlib.Core.Path.{◌≡◌, sym, ap, ◌∙◌, subst}
use Prim.Native.Nat.{ℕ, zero, suc, ◌+◌, ◌-◌, ◌*◌, ◌/◌, ◌^◌, ◌≤◌, ◌<◌}
use native.Mathlib.Nat.{le_trans, le_of_eq, le_antisymm, lt_of_lt_of_le, lt_of_le_of_lt, lt_of_not-le, not-le_of_lt, zero-lt-suc, mul-one, mul_comm, mul_assoc, mul_right_comm, mul-le-mul_right, mul-lt-mul_of_pos_right, add-mul, mul-pos, eq_of_mul-eq-mul_right, le-div_iff_mul-le, div-lt_iff_lt-mul, add-sub_cancel_left}
use native.Mathlib.Omega.{arith}
use mathlib.Core.Bool.{Bool, true, false, cond, true≢false, false≢true}
use lib.IntN.{pos, neg_ℤ}
use lib.Dec.{T, ltb, ltb→lt, lt→ltb, lit<, not_T}
use lib.Pow.{pow_pos, pow_mono}
use lib.Ieee.{Float, nan, inf, fin, binary64, up, down, size, units, round, add, sub, of_int}
use lib.Ieee.Bits.{is_true, is_false}
use lib.Ieee.Digits.{size-lt, size-le}
use lib.Ieee.Fits.{round_is, down_pos}
use lib.Ieee.Exact.{HasValue, units_val}
use lib.Ieee.Nearest.{closest, closest_same}
use lib.Ieee.Scale.{round_same}
use Rattle.whole.specs.Whole.{above_zero, signed_is}
use Rattle.whole.specs.Halves.{closest-le, closest-shifted}

-- 2 ^ 52 as a float
abbrev pub p52 : Float
p52 = fin false 1 (pos 52)

-- ---- a number from 2 ^ 52 to 2 ^ 53 keeps its whole part: 1074 digits are dropped
size_exact : (w j : ℕ) → 2 ^ j ≤ w → w < 2 ^ suc j → size w ≡ suc j
size_exact w j a b = le_antisymm (size-le w (suc j) b) (lt_of_not-le (λ (g : size w ≤ j). not-le_of_lt (lt_of_lt_of_le (size-lt w) (pow_mono g)) a))

module _ (n d u : ℕ) (D : 0 < d) (U : 0 < u) where
  scaled-least : (a : ℕ) → a * d ≤ n → a * u ≤ n * u / d
  scaled-least a h = (le-div_iff_mul-le D).1 (le_trans (le_of_eq (mul_right_comm a u d)) (mul-le-mul_right u h))

  scaled-most : (a : ℕ) → n < a * d → n * u / d < a * u
  scaled-most a h = (div-lt_iff_lt-mul D).1 (lt_of_lt_of_le (mul-lt-mul_of_pos_right h U) (le_of_eq (mul_right_comm a d u)))

whole-size : (n d : ℕ) → 0 < d → 4503599627370496 * d ≤ n → n < 9007199254740992 * d → size (n * 2 ^ 1074 / d) ≡ 1127
whole-size n d D a b = size_exact (n * 2 ^ 1074 / d) 1126 (scaled-least n d (2 ^ 1074) D (pow_pos 1074) 4503599627370496 a) (scaled-most n d (2 ^ 1074) D (pow_pos 1074) 9007199254740992 b)

pub whole-round : (s : Bool) (n d : ℕ) → 0 < d → 4503599627370496 * d ≤ n → n < 9007199254740992 * d → round binary64 s n d ≡ units binary64 s (closest n d) 1074
whole-round s n d D a b =
    round_is binary64 s n d
    ∙ ap (λ (z : ℕ). units binary64 s (closest (n * 2 ^ 1074) (d * 2 ^ (z - 53))) (z - 53)) (whole-size n d D a b)
    ∙ ap (λ (z : ℕ). units binary64 s z 1074) (closest_same (n * 2 ^ 1074) (d * 2 ^ 1074) n d (mul-pos D (pow_pos 1074)) D (mul_assoc n (2 ^ 1074) d ∙ ap (λ (z : ℕ). n * z) (mul_comm (2 ^ 1074) d)))

-- ---- from units of 2 ^ -1074 to units of 1
whole-value : (x : Float) (s : Bool) (q u : ℕ) → 0 < u → HasValue x s (q * u) u → HasValue x s q 1
whole-value nan s q u U h = h
whole-value (inf t) s q u U h = h
whole-value (fin t m e) s q u U h = (h.0, eq_of_mul-eq-mul_right u U (m * up e * 1) (q * down e) (ap (λ (z : ℕ). z * u) (mul-one (m * up e)) ∙ h.1 ∙ mul_right_comm q u (down e)))

-- ---- n / d + 2 ^ 52, for n / d below 2 ^ 52
small : (k : ℕ) → k ≤ 9007199254740992 → k * 2 ^ 1074 < 2 ^ 2098
small k h = lt_of_le_of_lt (mul-le-mul_right (2 ^ 1074) h) (lit< tt)

pub raised : (s : Bool) (n d : ℕ) → 0 < d → n < 4503599627370496 * d → HasValue (round binary64 s (n + 4503599627370496 * d) d) s (4503599627370496 + closest n d) 1
raised s n d D h =
    let k = 4503599627370496 + closest n d in
    subst (λ (y : Float). HasValue y s k 1) (sym (whole-round s (n + 4503599627370496 * d) d D (least n (4503599627370496 * d)) (most n d h) ∙ ap (λ (z : ℕ). units binary64 s z 1074) (closest-shifted n d D)))
    (whole-value (units binary64 s k 1074) s k (2 ^ 1074) (pow_pos 1074) (units_val binary64 s k 1074 (small k (fits (closest n d) (closest-le n d 4503599627370496 D h)))))
  where
    least : (n p : ℕ) → p ≤ n + p
    least n p = omega arith

    most : (n d : ℕ) → n < 4503599627370496 * d → n + 4503599627370496 * d < 9007199254740992 * d
    most n d h = omega arith

    fits : (k : ℕ) → k ≤ 4503599627370496 → 4503599627370496 + k ≤ 9007199254740992
    fits k h = omega arith

-- ---- 2 ^ 52 taken off again
-- with (2 ^ 52 + k) * d and 2 ^ 52 * d for the two sizes
off : (a k d : ℕ) → a * 1 ≡ (4503599627370496 + k) * d → (a * 1 ≡ 4503599627370496 * d + k * d)
off a k d h = h ∙ add-mul 4503599627370496 k d

back : (s : Bool) (a k d : ℕ) → 0 < d → a * 1 ≡ (4503599627370496 + k) * d → round binary64 s (a * 1 - 4503599627370496 * d) (d * 1) ≡ round binary64 s k 1
back s a k d D h =
    round_same binary64 s (a * 1 - 4503599627370496 * d) (d * 1) k 1 (mul-pos D (zero-lt-suc 0)) (zero-lt-suc 0)
    (mul-one (a * 1 - 4503599627370496 * d)
    ∙ ap (λ (z : ℕ). z - 4503599627370496 * d) (off a k d h)
    ∙ add-sub_cancel_left (4503599627370496 * d) (k * d)
    ∙ ap (λ (z : ℕ). k * z) (sym (mul-one d)))

not-less : (a k d : ℕ) → a * 1 ≡ (4503599627370496 + k) * d → ltb (a * 1) (4503599627370496 * d) ≡ false
not-less a k d h = is_false (ltb (a * 1) (4503599627370496 * d)) (not_T (ltb (a * 1) (4503599627370496 * d)) (λ (t : T (ltb (a * 1) (4503599627370496 * d))). no (a * 1) (4503599627370496 * d) (k * d) (off a k d h) (ltb→lt (a * 1) (4503599627370496 * d) t)))
  where
    no : (a p k : ℕ) → a ≡ p + k → a < p → ⊥
    no a p k h l = omega arith

pub down-plus : (y : Float) (k : ℕ) → HasValue y false (4503599627370496 + k) 1 → sub binary64 y p52 ≡ of_int binary64 (pos k)
unfolding sub of_int
down-plus nan k h = absurd h
down-plus (inf t) k h = absurd h
down-plus (fin true m e) k h = absurd (true≢false h.0)
down-plus (fin false m e) k h =
    ap (λ (t : Bool). cond t (round binary64 true (4503599627370496 * down e - m * up e * 1) (down e * 1)) (round binary64 false (m * up e * 1 - 4503599627370496 * down e) (down e * 1))) (not-less (m * up e) k (down e) h.1)
    ∙ back false (m * up e) k (down e) (down_pos e) h.1

-- the sign of what is left: none where nothing is left
sign_of : (a k d : ℕ) → 0 < d → a * 1 ≡ (4503599627370496 + k) * d → ltb (4503599627370496 * d) (a * 1) ≡ ltb 0 k
sign_of a zero d D h = is_false (ltb (4503599627370496 * d) (a * 1)) (not_T (ltb (4503599627370496 * d) (a * 1)) (λ (t : T (ltb (4503599627370496 * d) (a * 1))). no (a * 1) (4503599627370496 * d) d (off a zero d h) (ltb→lt (4503599627370496 * d) (a * 1) t)))
  where
    no : (a p d : ℕ) → a ≡ p + 0 * d → p < a → ⊥
    no a p d h l = omega arith
sign_of a (suc k) d D h = is_true (ltb (4503599627370496 * d) (a * 1)) (lt→ltb (4503599627370496 * d) (a * 1) (less (a * 1) (4503599627370496 * d) (suc k * d) (mul-pos (zero-lt-suc k) D) (off a (suc k) d h))) ∙ sym (above_zero k)
  where
    less : (a p k : ℕ) → 0 < k → a ≡ p + k → p < a
    less a p k h e = omega arith

pub up-minus : (y : Float) (k : ℕ) → HasValue y true (4503599627370496 + k) 1 → add binary64 y p52 ≡ of_int binary64 (neg_ℤ (pos k))
unfolding add
up-minus nan k h = absurd h
up-minus (inf t) k h = absurd h
up-minus (fin false m e) k h = absurd (false≢true h.0)
up-minus (fin true m e) k h =
    let a = m * up e * 1 in
    let b = 4503599627370496 * down e in
    ap (λ (t : Bool). cond t (round binary64 false (b - a) (down e * 1)) (round binary64 (ltb b a) (a - b) (down e * 1))) (not-less (m * up e) k (down e) h.1)
    ∙ ap (λ (t : Bool). round binary64 t (a - b) (down e * 1)) (sign_of (m * up e) k (down e) (down_pos e) h.1)
    ∙ back (ltb 0 k) (m * up e) k (down e) (down_pos e) h.1
    ∙ signed_is true k
