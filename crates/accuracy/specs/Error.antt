-- The error of one rounding to an f64, subnormals included: half a unit of the last digit kept. Numbers are in units of 2 ^ -1074.
use Rattle.std.specs.Prelude.{◌≡◌, ◌⊎◌, ℕ, ◌+◌, ◌-◌, ◌*◌, ◌/◌, ◌^◌, ◌≤◌, ◌<◌, Bool, Float}
use Rattle.std.proofs.Common.{sym, ap, ◌∙◌, subst, inl, inr, le_trans, le_of_eq, lt_of_le_of_lt, mul-one, mul_comm, mul_assoc, le-add_left, le-add_right, le-div_iff_mul-le, eq-zero-or-pos, mul-pos, le_of_mul-le-mul_right, arith, pow-add, pow_pos}
use Rattle.std.specs.Float.{binary64}
use Rattle.std.specs.Float.Ieee.{size, round}
use Rattle.std.specs.Float.Ieee.Digits.{size_reaches}
use Rattle.std.specs.Float.Ieee.Fits.{round_is}
use Rattle.std.specs.Float.Ieee.Exact.{HasValue, units_val}
use Rattle.std.specs.Float.Ieee.Order.{drop, kept}
use Rattle.std.specs.Float.Ieee.Scale.{grid}
use Rattle.whole.specs.Halves.{closest-halves}

-- ---- the unit of the last digit kept: the smallest value, or at most a part in 2 ^ 52 of the fraction
all_in_use : (z : ℕ) → 0 < z - 53 → 52 + (z - 53) < z
all_in_use z h = omega arith

unit-small : (n c : ℕ) → 0 < c → 4503599627370496 * (c * 2 ^ drop 53 n c) ≤ n + 4503599627370496 * c
unit-small n c C = go (eq-zero-or-pos (drop 53 n c))
  where
    go : (drop 53 n c ≡ 0) ⊎ (0 < drop 53 n c) → 4503599627370496 * (c * 2 ^ drop 53 n c) ≤ n + 4503599627370496 * c
    go (inl z) = le_trans (le_of_eq (ap (λ (k : ℕ). 4503599627370496 * (c * 2 ^ k)) z ∙ ap (λ (x : ℕ). 4503599627370496 * x) (mul-one c))) (le-add_left (4503599627370496 * c) n)
    go (inr h) =
        let k = drop 53 n c in
        let a : 4503599627370496 * 2 ^ k ≤ n / c = le_trans (le_of_eq (sym (pow-add 2 52 k))) (size_reaches (n / c) (52 + k) (all_in_use (size (n / c)) h)) in
        le_trans (le_of_eq (ap (λ (x : ℕ). 4503599627370496 * x) (mul_comm c (2 ^ k)) ∙ sym (mul_assoc 4503599627370496 (2 ^ k) c)))
        (le_trans ((le-div_iff_mul-le C).0 a) (le-add_right n (4503599627370496 * c)))

-- ---- g, in units, is what a / c is rounded to, and n is a in units
pub record Near (g c n : ℕ) : Type 0 where
  pub over : 9007199254740992 * (g * c) ≤ 9007199254740992 * n + (n + 4503599627370496 * c)
  pub under : 9007199254740992 * n ≤ 9007199254740992 * (g * c) + (n + 4503599627370496 * c)

grid-near : (a c : ℕ) → 0 < c → Near (grid binary64 a c) c (a * 2 ^ 1074)
grid-near a c C =
    let n = a * 2 ^ 1074 in
    let k = drop 53 n c in
    let h = closest-halves n (c * 2 ^ k) (mul-pos C (pow_pos k)) in
    scale (kept 53 n c) c (2 ^ k) n h.over h.under (unit-small n c C)
  where
    scale : (q c w n : ℕ) → 2 * (q * (c * w)) ≤ 2 * n + c * w → 2 * n ≤ 2 * (q * (c * w)) + c * w → 4503599627370496 * (c * w) ≤ n + 4503599627370496 * c → Near (q * w) c n
    scale q c w n a b u = record { over = omega arith; under = omega arith }

-- a fraction of m units at most is rounded to at most 2 m + 1
near-most : (g c n m : ℕ) → 0 < c → Near g c n → n ≤ m * c → g ≤ 2 * m + 1
near-most g c n m C h l = last g m (le_of_mul-le-mul_right (go h.over) C)
  where
    go : 9007199254740992 * (g * c) ≤ 9007199254740992 * n + (n + 4503599627370496 * c) → 9007199254740992 * g * c ≤ (9007199254740993 * m + 4503599627370496) * c
    go h = omega (arith, l)

    last : (g m : ℕ) → 9007199254740992 * g ≤ 9007199254740993 * m + 4503599627370496 → g ≤ 2 * m + 1
    last g m h = omega arith

-- y has the sign s and a size in units, which is a / c rounded
pub record Rounded (y : Float) (s : Bool) (a c : ℕ) : Type 0 where
  pub units : ℕ
  pub value : HasValue y s units (2 ^ 1074)
  pub near : Near units c (a * 2 ^ 1074)

pub rounded : (s : Bool) (a c m : ℕ) → 0 < c → a * 2 ^ 1074 ≤ m * c → 2 * m + 1 < 2 ^ 2098 → Rounded (round binary64 s a c) s a c
rounded s a c m C h l =
    let e = grid-near a c C in
    record {
      units = grid binary64 a c;
      value = subst (λ (y : Float). HasValue y s (grid binary64 a c) (2 ^ 1074)) (sym (round_is binary64 s a c)) (units_val binary64 s (kept 53 (a * 2 ^ 1074) c) (drop 53 (a * 2 ^ 1074) c) (lt_of_le_of_lt (near-most (grid binary64 a c) c (a * 2 ^ 1074) m C e h) l));
      near = e;
    }
