-- The f64 nearest a p-th root, for any p: two comparisons with the floats next to it.
use mathlib.Core.Path.{◌≡◌, sym, subst}
use Prim.Native.Nat.{ℕ, ◌+◌, ◌-◌, ◌*◌, ◌^◌, ◌≤◌, ◌<◌}
use native.Mathlib.Nat.{lt_of_lt_of_le, lt_of_le_of_lt, mul-le-mul_right, pow-le-pow_left}
use native.Mathlib.Omega.{arith}
use lib.Dec.{T}
use lib.Ieee.{Float, binary64, to_bits, fits}
use lib.Ieee.Positive.{positive}
use Rattle.root.specs.Root.{steps}
use Rattle.root.proofs.Fields.{Grid, grid}
use Rattle.root.proofs.Patterns.{pattern-steps}
use Rattle.root.proofs.Neighbour.{next_up, next_down}
use Rattle.standins.specs.Power.{NearestPth}

sum_mono : {a b : ℕ} (c : ℕ) → a ≤ b → c + a ≤ c + b
sum_mono c h = omega arith

-- the two comparisons are of numerals, so a caller answers them by `lit< tt`
pub nearest-pth : (p a b q g : ℕ) (c : Float) → 4503599627370496 < q → T (fits binary64 c) → T (positive c) → steps c ≡ q * 2 ^ g
    → (2 * 2 ^ 1074) ^ p * a < (q * 2 ^ g + (q + 1) * 2 ^ g) ^ p * b
    → (q * 2 ^ g + (q - 1) * 2 ^ g) ^ p * b < (2 * 2 ^ 1074) ^ p * a
    → NearestPth p a b c
nearest-pth p a b q g c least h k e up down = record {
  held = h;
  above = k;
  over = λ y f s l.
      subst (λ (x : ℕ). (2 * 2 ^ 1074) ^ p * a < (x + steps y) ^ p * b) (sym e)
      (lt_of_lt_of_le up (mul-le-mul_right b (pow-le-pow_left (sum_mono (q * 2 ^ g) (next_up q g least (steps y) (subst Grid (sym (pattern-steps y f s)) (grid (to_bits binary64 y))) (subst (λ (x : ℕ). x < steps y) e l))) p)));
  under = λ y f s l.
      subst (λ (x : ℕ). (x + steps y) ^ p * b < (2 * 2 ^ 1074) ^ p * a) (sym e)
      (lt_of_le_of_lt (mul-le-mul_right b (pow-le-pow_left (sum_mono (q * 2 ^ g) (next_down q g least (steps y) (subst Grid (sym (pattern-steps y f s)) (grid (to_bits binary64 y))) (subst (λ (x : ℕ). steps y < x) e l))) p)) down);
}
