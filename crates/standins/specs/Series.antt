-- Sine, cosine, exponential and atan2 of document 01, sine and cosine with change 7. Each operation rounds once, left to right.
use Rattle.std.specs.Prelude.{◌≡◌, refl, false, cond, ℕ, zero, suc, ◌+◌, ◌-◌, ◌*◌, ◌≤◌, ◌<◌, Float}
use Rattle.std.proofs.Common.{ap, ◌∙◌, mul-le-mul, arith}
use Rattle.std.proofs.Math.Path.{fun_ext}
use Rattle.std.specs.Float.{nan, binary64}
use Rattle.std.specs.Float.Ieee.{of_int, of_bits, neg, lt, ne}
use Rattle.std.specs.Float.Ieee.Exact.{HasValue}
use Rattle.std.specs.Float.Ieee.Back.{round_whole}
use Rattle.root.specs.Root.{root_of}
use Rattle.standins.specs.Num.{◌⊕◌, ◌⊖◌, ◌⊗◌, ◌⊘◌, nought, one, whole, abs_of}
use Rattle.standins.specs.Reduction.{unreduced, reduced_of, kept}
use Rattle.standins.specs.declared.series.BothSeries.{BothSeries}
use Rattle.standins.specs.declared.series.SineCosine.{SineCosine}

-- for k = n down to 1, s becomes f k s
unfoldable pub down_from : (ℕ → Float → Float) → ℕ → Float → Float
down_from f zero s = s
down_from f (suc n) s = down_from f n (f (suc n) s)

-- ---- sine and cosine

-- k·(k+1), the divisor of both series: k is even in the sine, odd in the cosine
abbrev pub divisor_of : ℕ → Float
divisor_of k = whole (k * (k + 1))

-- the sine's, of the n-th term: 2n·(2n+1)
unfoldable pub sine_divisor : ℕ → Float
sine_divisor n = divisor_of (2 * n)

-- the cosine's, of the n-th term: (2n-1)·2n
unfoldable pub cosine_divisor : ℕ → Float
cosine_divisor n = divisor_of (2 * n - 1)

-- one term more: 1 - s·q/d
unfoldable pub term_of : (ℕ → Float) → Float → ℕ → Float → Float
term_of d q n s = one ⊖ s ⊗ q ⊘ d n

-- s = 1; for n = 16 down to 1, s = 1 - s·q/d
unfoldable pub series_of : (ℕ → Float) → Float → Float
series_of d q = down_from (term_of d q) 16 one

-- of q = a·a: a·s, and s
unfoldable pub sine_series_of : Float → Float
sine_series_of a = a ⊗ series_of sine_divisor (a ⊗ a)

unfoldable pub cosine_series_of : Float → Float
cosine_series_of a = series_of cosine_divisor (a ⊗ a)

-- of the reduced angle (change 7)
unfoldable pub sine_of : Float → Float
sine_of a = sine_series_of (reduced_of a)

unfoldable pub cosine_of : Float → Float
cosine_of a = cosine_series_of (reduced_of a)

-- a, and both series of its square
abbrev pub both_series_of : Float → BothSeries
both_series_of a = record { angle = a; sine = series_of sine_divisor (a ⊗ a); cosine = series_of cosine_divisor (a ⊗ a) }

-- sine and cosine of a
abbrev pub sine_cosine_of : Float → SineCosine
sine_cosine_of a = record { sine = sine_of a; cosine = cosine_of a }

-- ---- exponential

-- one term more: 1 + e·z/n
unfoldable pub exp_term_of : Float → ℕ → Float → Float
exp_term_of z n e = one ⊕ e ⊗ z ⊘ whole n

-- e = 1; for n = 18 down to 1, e = 1 + e·z/n
unfoldable pub exp_series_of : Float → Float
exp_series_of z = down_from (exp_term_of z) 18 one

-- a, squared k times
unfoldable pub squarings : ℕ → Float → Float
squarings k a = down_from (λ n e. e ⊗ e) k a

-- y < -700 gives 0; y > 0 or NaN gives NaN; else the series of y/1024, squared ten times
unfoldable pub exp_of : Float → Float
exp_of y =
    cond (lt y (neg (whole 700))) nought
    (cond (lt nought y) nan
    (cond (ne y y) nan
    (squarings 10 (exp_series_of (y ⊘ whole 1024)))))

-- ---- atan2 of n and w

-- r/(1 + sqrt(1 + r·r))
unfoldable pub halved_of : Float → Float
halved_of r = r ⊘ (one ⊕ root_of (one ⊕ r ⊗ r))

-- one term more, m = 2n - 1: 1/m - s·(r·r)
unfoldable pub arc_term_of : Float → ℕ → Float → Float
arc_term_of q n s = one ⊘ whole (2 * n - 1) ⊖ s ⊗ q

-- s = 1/25; for odd m = 23 down to 1, s = 1/m - s·(r·r)
unfoldable pub arc_series_of : Float → Float
arc_series_of r = down_from (arc_term_of (r ⊗ r)) 12 (one ⊘ whole 25)

-- the angle halved twice, then 4·(r·s)
unfoldable pub small_angle_of : Float → Float
small_angle_of r = let h = halved_of (halved_of r) in whole 4 ⊗ (h ⊗ arc_series_of h)

-- 1.5707963267948966
abbrev pub quarter_turn : Float
quarter_turn = of_bits binary64 0x3ff9_21fb_5444_2d18

-- r is the smaller over the larger; if n > w, a quarter turn minus its angle
unfoldable pub atan2_of : Float → Float → Float
atan2_of n w = cond (lt w n) (quarter_turn ⊖ small_angle_of (w ⊘ n)) (small_angle_of (n ⊘ w))

-- ---- laws: the divisors

-- at most 32·33, that of the sine's 16th term
pub divisor-most : (k : ℕ) → k ≤ 32 → k * (k + 1) ≤ 1056
divisor-most k h = let l : k + 1 ≤ 33 = omega arith in mul-le-mul h l

-- none is rounded: the float is k·(k+1) itself
pub divisor-exact : (k : ℕ) → k ≤ 32 → HasValue (divisor_of k) false (k * (k + 1)) 1
unfolding of_int
divisor-exact k h = round_whole binary64 false (k * (k + 1)) (omega (arith, divisor-most k h))

-- both series are those of document 01's two products
pub sine-stated : (a : Float) → sine_series_of a ≡ a ⊗ series_of (λ n. whole (2 * n * (2 * n + 1))) (a ⊗ a)
unfolding sine_series_of sine_divisor
sine-stated a = refl

pub cosine-stated : (a : Float) → cosine_series_of a ≡ series_of (λ n. whole ((2 * n - 1) * (2 * n))) (a ⊗ a)
unfolding cosine_series_of cosine_divisor
cosine-stated a = ap (λ (d : ℕ → Float). series_of d (a ⊗ a)) (fun_ext (λ n. ap whole (product n)))
  where
    product : (n : ℕ) → (2 * n - 1) * (2 * n - 1 + 1) ≡ (2 * n - 1) * (2 * n)
    product zero = refl
    product (suc n) = let k : 2 * suc n - 1 + 1 ≡ 2 * suc n = omega arith in ap (λ (m : ℕ). (2 * suc n - 1) * m) k

-- ---- laws: what change 7 leaves alone
-- at or below 4.5 in size, and of a NaN, sine and cosine are the series of a itself, as document 01 has them
pub sine-kept : (a : Float) → lt unreduced (abs_of a) ≡ false → sine_of a ≡ sine_series_of a
unfolding sine_of
sine-kept a h = ap sine_series_of (kept a h)

pub cosine-kept : (a : Float) → lt unreduced (abs_of a) ≡ false → cosine_of a ≡ cosine_series_of a
unfolding cosine_of
cosine-kept a h = ap cosine_series_of (kept a h)

-- ---- laws: a loop that counts down

-- one turn
pub down_turn : (f : ℕ → Float → Float) (n : ℕ) (s t : Float) → 0 < n → down_from f n s ≡ t → down_from f (n - 1) (f n s) ≡ t
unfolding down_from
down_turn f zero s t h e = absurd (omega arith)
down_turn f (suc n) s t h e = let k : suc n - 1 ≡ n = omega arith in ap (λ (m : ℕ). down_from f m (f (suc n) s)) k ∙ e

-- where it ends
pub down-done : (f : ℕ → Float → Float) (n : ℕ) (s t : Float) → n ≤ 0 → down_from f n s ≡ t → s ≡ t
unfolding down_from
down-done f zero s t h e = e
down-done f (suc n) s t h e = absurd (omega arith)

-- one turn of sine's or cosine's series, whichever the divisors are
pub term-turn : (d : ℕ → Float) (q : Float) (n : ℕ) (s t k : Float) → 0 < n → k ≡ d n
    → down_from (term_of d q) n s ≡ t → down_from (term_of d q) (n - 1) (one ⊖ s ⊗ q ⊘ k) ≡ t
unfolding term_of
term-turn d q n s t k h e i =
    ap (λ (x : Float). down_from (term_of d q) (n - 1) (one ⊖ s ⊗ q ⊘ x)) e ∙ down_turn (term_of d q) n s t h i
