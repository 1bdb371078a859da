-- The whole number nearest to an f64, said twice: `IsNearestWhole`, what it is, and `whole_of`, how to compute it.
use Rattle.std.specs.Prelude.{◌≡◌, refl, ℕ, zero, suc, ◌+◌, ◌-◌, ◌*◌, ◌%◌, ◌≤◌, Bool, true, false, cond, ◌&&◌, ℤ, pos, neg_ℤ, T, ltb, Float}
use Rattle.std.proofs.Common.{ap, zero-lt-suc, lt→ltb}
use Rattle.std.specs.Float.{nan, inf, fin, binary64}
use Rattle.std.specs.Float.Ieee.{up, down, round, of_int, fits}
use Rattle.std.specs.Float.Ieee.Bits.{is_true}
use Rattle.std.specs.Float.Ieee.Exact.{HasValue}
use Rattle.std.specs.Float.Ieee.Nearest.{closest}

-- |a - b|
abbrev pub apart : ℕ → ℕ → ℕ
apart a b = a - b + (b - a)

-- k is the whole number nearest to n / d: no whole number is nearer, and if another one is as near, k is even. The distances are d times as large here.
pub record NearestTo (n d k : ℕ) : Type 0 where
  pub least : (j : ℕ) → apart n (k * d) ≤ apart n (j * d)
  pub even : (j : ℕ) → (j ≡ k → ⊥) → apart n (k * d) ≡ apart n (j * d) → k % 2 ≡ 0

-- r is finite, of size k, and of the sign s where k is above 0: a zero is +0
pub record Whole (s : Bool) (k : ℕ) (r : Float) : Type 0 where
  pub held : T (fits binary64 r)
  pub value : HasValue r (s && ltb 0 k) k 1

-- r is the whole number nearest to x, of which the size is m * up e / down e. A whole number of the other sign is further away than 0.
abbrev pub IsNearestWhole : Float → Float → Type 0
IsNearestWhole nan r = r ≡ nan
IsNearestWhole (inf s) r = r ≡ inf s
IsNearestWhole (fin s m e) r = (k : ℕ) × NearestTo (m * up e) (down e) k × Whole s k r

-- ±k
abbrev pub signed : Bool → ℕ → ℤ
signed s k = cond s (neg_ℤ (pos k)) (pos k)

-- the whole number nearest to x, a tie to the even one; a zero is +0
unfoldable pub whole_of : Float → Float
whole_of nan = nan
whole_of (inf s) = inf s
whole_of (fin s m e) = of_int binary64 (signed s (closest (m * up e) (down e)))

-- ---- laws: ±k as a float, its sign where k is above 0
pub above_zero : (k : ℕ) → ltb 0 (suc k) ≡ true
above_zero k = is_true (ltb 0 (suc k)) (lt→ltb 0 (suc k) (zero-lt-suc k))

negated : (k : ℕ) → round binary64 (ltb 0 k) k 1 ≡ of_int binary64 (neg_ℤ (pos k))
unfolding of_int
negated zero = refl
negated (suc k) = ap (λ (s : Bool). round binary64 s (suc k) 1) (above_zero k)

pub signed_is : (s : Bool) (k : ℕ) → round binary64 (s && ltb 0 k) k 1 ≡ of_int binary64 (signed s k)
unfolding of_int
signed_is false k = refl
signed_is true k = negated k
