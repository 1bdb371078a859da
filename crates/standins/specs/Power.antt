-- Powers by squaring, and the constant b of the swamp losses for both of them.
use Rattle.std.specs.Prelude.{ℕ, ◌+◌, ◌*◌, ◌^◌, ◌<◌, T, Float}
use Rattle.std.specs.Float.{binary64}
use Rattle.std.specs.Float.Ieee.{fits, of_bits}
use Rattle.std.specs.Float.Ieee.Positive.{positive}
use Rattle.root.specs.Root.{steps, not_negative}
use Rattle.standins.specs.Num.{◌⊗◌}
use Rattle.standins.specs.Series.{squarings}

-- a^4·a^16
unfoldable pub power20_of : Float → Float
power20_of a = squarings 2 a ⊗ squarings 4 a

-- a^2·a^4·a^8·a^16
unfoldable pub power30_of : Float → Float
power30_of a = squarings 1 a ⊗ squarings 2 a ⊗ squarings 3 a ⊗ squarings 4 a

-- r is nearer to the p-th root of n / d than any other f64 y that is not negative: the midpoint of r and y lies beyond the root. The numbers are in units of
-- 2 ^ -1074. A negative y is further away than +0.
pub record NearestPth (p n d : ℕ) (r : Float) : Type 0 where
  pub held : T (fits binary64 r)
  pub above : T (positive r)
  pub over : (y : Float) → T (fits binary64 y) → T (not_negative y) → steps r < steps y → (2 * 2 ^ 1074) ^ p * n < (steps r + steps y) ^ p * d
  pub under : (y : Float) → T (fits binary64 y) → T (not_negative y) → steps y < steps r → (steps r + steps y) ^ p * d < (2 * 2 ^ 1074) ^ p * n

-- r is the constant b for the power p: the f64 nearest the p-th root of 1/2.995732273553991, the decimal taken exactly
abbrev pub IsB : ℕ → Float → Type 0
IsB p r = NearestPth p (10 ^ 15) 2995732273553991 r

-- the f64 nearest the 20th root of 1/2.995732273553991: 0.9466181999720432
abbrev pub b20 : Float
b20 = of_bits binary64 0x3fee_4ab2_4055_b4bf

-- the f64 nearest the 30th root of 1/2.995732273553991: 0.9640877546898133
abbrev pub b30 : Float
b30 = of_bits binary64 0x3fee_d9ce_901b_bcfb
