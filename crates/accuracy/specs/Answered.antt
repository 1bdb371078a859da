-- Sine and cosine are numbers, no infinity and no NaN, for every angle up to 2 ^ 40 in size. The bounds on the way are whole numbers, and coarse.
use Rattle.std.specs.Prelude.{◌≡◌, refl, Bool, true, false, cond, ◌&&◌, ◌||◌, ℤ, T, ltb, eqb, Float}
use Rattle.std.proofs.Common.{sym, ◌∙◌, le_trans, le_of_eq, lt_of_le_of_lt, mul-le-mul, mul_right_comm, mul-pos, le_of_mul-le-mul_right, zero-lt-suc, pow-suc, lit<, ne_eqb, pow_pos}
use Rattle.std.proofs.Math.Path.{ap}
use Prim.Native.Nat.{ℕ, zero, suc, ◌+◌, ◌-◌, ◌*◌, ◌^◌, ◌≤◌, ◌<◌}
use Rattle.std.proofs.Math.Nat.{mul-le-mul_right}
use native.Mathlib.Omega.{arith}
use Rattle.std.proofs.Math.Dec.{lit≤}
use Rattle.std.specs.Float.{nan, inf, fin, binary64}
use Rattle.std.specs.Float.Ieee.{up, down, unlike, round, sum, add, sub, mul, div, neg, of_bits, le}
use Rattle.std.specs.Float.Ieee.Bits.{is_true}
use Rattle.std.specs.Float.Ieee.Fits.{up_pos, down_pos}
use Rattle.std.specs.Float.Ieee.Exact.{HasValue}
use Rattle.std.specs.Float.Ieee.Order.{le_of_values}
use Rattle.std.specs.Float.Ieee.Scale.{finite}
use Rattle.whole.specs.Sizes.{says}
use Rattle.standins.specs.Num.{◌⊕◌, ◌⊖◌, ◌⊗◌, ◌⊘◌, half, one, abs_of}
use Rattle.standins.specs.Reduction.{reduced_of}
use Rattle.standins.specs.Series.{down_from, divisor_of, sine_divisor, cosine_divisor, term_of, series_of, sine_series_of, cosine_series_of, sine_of, cosine_of, divisor-exact}
use Rattle.accuracy.specs.Error.{Near, rounded}
use Rattle.accuracy.specs.Reduced.{far, everywhere}

-- x is finite, and at most k in size
abbrev pub Most : ℕ → Float → Type 0
Most k nan = ⊥
Most k (inf s) = ⊥
Most k (fin s m e) = m * up e ≤ k * down e

-- ---- bounds
most-finite : (k : ℕ) (x : Float) → Most k x → T (finite x)
most-finite k nan h = h
most-finite k (inf s) h = h
most-finite k (fin s m e) h = tt

pub most-more : (j k : ℕ) (x : Float) → Most j x → j ≤ k → Most k x
most-more j k nan h l = h
most-more j k (inf s) h l = h
most-more j k (fin s m e) h l = le_trans h (mul-le-mul_right (down e) l)

most-neg : (k : ℕ) (x : Float) → Most k x → Most k (neg x)
unfolding neg
most-neg k nan h = h
most-neg k (inf s) h = h
most-neg k (fin s m e) h = h

-- what is at most n * 2 ^ f, and that at most k
pub crossed : (m n k : ℕ) (e f : ℤ) → m * up e * down f ≤ n * up f * down e → n * up f ≤ k * down f → m * up e ≤ k * down e
crossed m n k e f order l = le_of_mul-le-mul_right (le_trans order (le_trans (mul-le-mul_right (down e) l) (le_of_eq (mul_right_comm k (down f) (down e))))) (down_pos f)

-- from a comparison, and to one
pub le-most : (x : Float) (n : ℕ) (f : ℤ) (k : ℕ) → T (le (abs_of x) (fin false n f)) → n * up f ≤ k * down f → Most k x
unfolding abs_of le
le-most nan n f k h l = h
le-most (inf s) n f k h l = h
le-most (fin s m e) n f k h l =
    let a = m * up e * down f in
    let b = n * up f * down e in
    crossed m n k e f (says a b a b (λ (q : a ≡ b). q) (is_true (ltb a b || (eqb a b && true)) h)) l

most-far : (x : Float) → Most 1099511627776 x → T (le (abs_of x) far)
unfolding of_bits abs_of
most-far nan h = absurd h
most-far (inf s) h = absurd h
most-far (fin s m e) h = le_of_values (fin false m e) far (m * up e) (down e) 1099511627776 1 (down_pos e) (zero-lt-suc 0) (refl, refl) (refl, refl) (whole (m * up e) (1099511627776 * down e) h)
  where
    whole : (a b : ℕ) → a ≤ b → a * 1 ≤ b
    whole a b h = omega arith

-- ---- one rounding
abbrev U : ℕ
U = 2 ^ 1074

value-most : (y : Float) (s : Bool) (g k : ℕ) → HasValue y s g U → g ≤ k * U → Most k y
value-most nan s g k h l = h
value-most (inf t) s g k h l = h
value-most (fin t m e) s g k h l =
    le_of_mul-le-mul_right (le_trans (le_of_eq h.1) (le_trans (mul-le-mul_right (down e) l) (le_of_eq (mul_right_comm k U (down e))))) (pow_pos 1074)

near-most : (g c n x u : ℕ) → 0 < c → 0 < u → Near g c n → n ≤ x * c → x ≤ 4503599627370496 * u → g ≤ x + u
near-most g c n x u C p r l h = last g x u p h (le_of_mul-le-mul_right (go r.over) C)
  where
    go : 9007199254740992 * (g * c) ≤ 9007199254740992 * n + (n + 4503599627370496 * c) → 9007199254740992 * g * c ≤ (9007199254740993 * x + 4503599627370496) * c
    go o = omega (arith, l, o)

    last : (g x u : ℕ) → 0 < u → x ≤ 4503599627370496 * u → 9007199254740992 * g ≤ 9007199254740993 * x + 4503599627370496 → g ≤ x + u
    last g x u p h o = omega arith

round-most : (s : Bool) (a c k : ℕ) → 0 < c → a ≤ k * c → k ≤ 4503599627370496 → Most (k + 1) (round binary64 s a c)
round-most s a c k C h l =
    let n : a * U ≤ k * U * c = le_trans (mul-le-mul_right U h) (le_of_eq (mul_right_comm k c U)) in
    let m : k * U ≤ 4503599627370496 * U = mul-le-mul_right U l in
    let r = rounded s a c (k * U) C n (lt_of_le_of_lt (twice (k * U) (4503599627370496 * U) m) (lit< tt)) in
    let g = near-most r.units c (a * U) (k * U) U C (pow_pos 1074) r.near n m in
    value-most (round binary64 s a c) s r.units (k + 1) r.value (le_trans g (le_of_eq (one_more k U)))
  where
    twice : (x y : ℕ) → x ≤ y → 2 * x + 1 ≤ 2 * y + 1
    twice x y h = omega arith

    one_more : (k u : ℕ) → k * u + u ≡ (k + 1) * u
    one_more k u = omega arith

-- ---- each operation
mul_most : (x y : Float) (j k : ℕ) → Most j x → Most k y → j * k ≤ 4503599627370496 → Most (j * k + 1) (x ⊗ y)
unfolding mul
mul_most nan y j k h i l = absurd h
mul_most (inf s) y j k h i l = absurd h
mul_most (fin s m e) nan j k h i l = absurd i
mul_most (fin s m e) (inf t) j k h i l = absurd i
mul_most (fin s m e) (fin t n d) j k h i l =
    round-most (unlike s t) (m * up e * (n * up d)) (down e * down d) (j * k) (mul-pos (down_pos e) (down_pos d)) (le_trans (mul-le-mul h i) (le_of_eq (across j (down e) k (down d)))) l
  where
    across : (j a k b : ℕ) → j * a * (k * b) ≡ j * k * (a * b)
    across j a k b = omega arith

sum-most : (s t : Bool) (a b c k : ℕ) → 0 < c → a + b ≤ k * c → k ≤ 4503599627370496 → Most (k + 1) (sum binary64 s a t b c)
unfolding sum
sum-most true true a b c k C h l = round-most true (a + b) c k C h l
sum-most false false a b c k C h l = round-most false (a + b) c k C h l
sum-most true false a b c k C h l = go (ltb a b)
  where
    go : (p : Bool) → Most (k + 1) (cond p (round binary64 false (b - a) c) (round binary64 (true && ltb b a) (a - b) c))
    go true = round-most false (b - a) c k C (omega arith) l
    go false = round-most (true && ltb b a) (a - b) c k C (omega arith) l
sum-most false true a b c k C h l = go (ltb a b)
  where
    go : (p : Bool) → Most (k + 1) (cond p (round binary64 true (b - a) c) (round binary64 (false && ltb b a) (a - b) c))
    go true = round-most true (b - a) c k C (omega arith) l
    go false = round-most (false && ltb b a) (a - b) c k C (omega arith) l

pub add_most : (x y : Float) (j k : ℕ) → Most j x → Most k y → j + k ≤ 4503599627370496 → Most (j + k + 1) (x ⊕ y)
unfolding add
add_most nan y j k h i l = absurd h
add_most (inf s) y j k h i l = absurd h
add_most (fin s m e) nan j k h i l = absurd i
add_most (fin s m e) (inf t) j k h i l = absurd i
add_most (fin s m e) (fin t n d) j k h i l =
    sum-most s t (m * up e * down d) (n * up d * down e) (down e * down d) (j + k) (mul-pos (down_pos e) (down_pos d))
    (both (m * up e * down d) (n * up d * down e) j k (down e) (down d) (mul-le-mul_right (down d) h) (mul-le-mul_right (down e) i)) l
  where
    both : (a b j k e d : ℕ) → a ≤ j * e * d → b ≤ k * d * e → a + b ≤ (j + k) * (e * d)
    both a b j k e d g h = omega arith

sub-most : (x y : Float) (j k : ℕ) → Most j x → Most k y → j + k ≤ 4503599627370496 → Most (j + k + 1) (x ⊖ y)
unfolding sub
sub-most x y j k h i l = add_most x (neg y) j k h (most-neg k y i) l

-- by a whole number D
div_most : (x d : Float) (j k D : ℕ) → Most j x → HasValue d false D 1 → 0 < D → j ≤ k * D → k ≤ 4503599627370496 → Most (k + 1) (x ⊘ d)
unfolding div
div_most nan d j k D h v P i l = absurd h
div_most (inf s) d j k D h v P i l = absurd h
div_most (fin s m e) nan j k D h v P i l = absurd v
div_most (fin s m e) (inf t) j k D h v P i l = absurd v
div_most (fin s m e) (fin t zero f) j k D h v P i l = absurd (none (up f) (D * down f) (mul-pos P (down_pos f)) v.1)
  where
    none : (u x : ℕ) → 0 < x → 0 * u * 1 ≡ x → ⊥
    none u x h e = omega arith
div_most (fin s m e) (fin t (suc n) f) j k D h v P i l =
    rw (ne_eqb (suc n) 0 (λ (q : suc n ≡ 0). omega (arith, q)))
    (round-most (unlike s t) (m * up e * down f) (suc n * up f * down e) k (mul-pos (mul-pos (zero-lt-suc n) (up_pos f)) (down_pos e))
    (le_trans (mul-le-mul_right (down f) (le_trans h (mul-le-mul_right (down e) i))) (le_of_eq (across k D (down e) (down f) (suc n * up f) v.1))) l)
  where
    across : (k D e f x : ℕ) → x * 1 ≡ D * f → k * D * e * f ≡ k * (x * e)
    across k D e f x h = let g : k * (x * 1) * e ≡ k * (D * f) * e = ap (λ (z : ℕ). k * z * e) h in omega (arith, g)

-- ---- the series
-- one term more, with a divisor of at least 12, and the last one
module _ (q : Float) (Q : Most 26 q) (d : ℕ → Float) (n D : ℕ) (v : HasValue (d n) false D 1) (s : Float) (K : ℕ) (k : 1 ≤ K) (h : Most K s) where
  one-most : Most 1 one
  unfolding of_bits
  one-most = lit≤ tt

  term-most : (m : ℕ) → 2 ≤ D → K * 26 + 1 ≤ m * D → 100 * K ≤ 4503599627370496 → m ≤ 14 * K → Most (m + 3) (term_of d q n s)
  unfolding term_of
  term-most m two i l g =
      let p = mul_most s q K 26 h Q (omega (arith, l)) in
      let r = div_most (s ⊗ q) (d n) (K * 26 + 1) m D p v (omega (arith, two)) i (omega (arith, l, g)) in
      most-more (1 + (m + 1) + 1) (m + 3) (one ⊖ s ⊗ q ⊘ d n) (sub-most one (s ⊗ q ⊘ d n) 1 (m + 1) one-most r (omega (arith, l, g))) (omega arith)

  early-most : 12 ≤ D → 100 * K ≤ 4503599627370496 → Most (6 * K) (term_of d q n s)
  early-most t l =
      let many : 3 * K * 12 ≤ 3 * K * D = mul-le-mul (le_of_eq refl) t in
      most-more (3 * K + 3) (6 * K) (term_of d q n s) (term-most (3 * K) (omega (arith, t)) (omega (arith, many, k)) l (omega arith)) (omega (arith, k))

  last-most : 2 ≤ D → 100 * K ≤ 4503599627370496 → Most (17 * K) (term_of d q n s)
  last-most t l =
      let many : 14 * K * 2 ≤ 14 * K * D = mul-le-mul (le_of_eq refl) t in
      most-more (14 * K + 3) (17 * K) (term_of d q n s) (term-most (14 * K) t (omega (arith, many, k)) l (omega arith)) (omega (arith, k))

-- the divisors are f n·(f n + 1)
module _ (f : ℕ → ℕ) (few : (n : ℕ) → n ≤ 16 → f n ≤ 32) (last : 1 ≤ f 1) (early : (n : ℕ) → 2 ≤ n → 3 ≤ f n) (q : Float) (Q : Most 26 q) where
  abbrev d : ℕ → Float
  d n = divisor_of (f n)

  twelve : (k : ℕ) → 3 ≤ k → 12 ≤ k * (k + 1)
  twelve k h = let g : 4 ≤ k + 1 = omega arith in mul-le-mul h g

  pair : (k : ℕ) → 1 ≤ k → 2 ≤ k * (k + 1)
  pair k h = let g : 2 ≤ k + 1 = omega arith in mul-le-mul h g

  six : (n : ℕ) → 1 ≤ 6 ^ n
  six zero = lit≤ tt
  six (suc n) = le_trans (six n) (le_trans (times (6 ^ n)) (le_of_eq (sym (pow-suc 6 n))))
    where
      times : (p : ℕ) → p ≤ p * 6
      times p = omega arith

  down-most : (n K : ℕ) (s : Float) → n ≤ 16 → 1 ≤ K → 102 * (6 ^ n * K) ≤ 4503599627370496 → Most K s → Most (17 * (6 ^ n * K)) (down_from (term_of d q) n s)
  unfolding down_from
  down-most zero K s c k l h = most-more K (17 * (6 ^ 0 * K)) s h (omega arith)
  down-most (suc zero) K s c k l h =
      most-more (17 * K) (17 * (6 ^ 1 * K)) (term_of d q 1 s)
      (last-most q Q d 1 (f 1 * (f 1 + 1)) (divisor-exact (f 1) (few 1 c)) s K k h (pair (f 1) last) (omega (arith, l))) (omega arith)
  down-most (suc (suc n)) K s c k l h =
      let e : 6 ^ suc (suc n) * K ≡ 6 ^ suc n * (6 * K) = ap (λ (p : ℕ). p * K) (pow-suc 6 (suc n)) ∙ power (6 ^ suc n) K in
      let m : 1 * (6 * K) ≤ 6 ^ suc n * (6 * K) = mul-le-mul_right (6 * K) (six (suc n)) in
      let t = early-most q Q d (suc (suc n)) (f (suc (suc n)) * (f (suc (suc n)) + 1)) (divisor-exact (f (suc (suc n))) (few (suc (suc n)) c)) s K k h (twelve (f (suc (suc n))) (early (suc (suc n)) (omega arith))) (omega (arith, l, e, m)) in
      rw e (down-most (suc n) (6 * K) (term_of d q (suc (suc n)) s) (omega (arith, c)) (omega (arith, k)) (omega (arith, l, e)) t)
    where
      power : (p K : ℕ) → p * 6 * K ≡ p * (6 * K)
      power p K = omega arith

  series-most : Most (17 * 6 ^ 16) (series_of d q)
  unfolding series_of of_bits
  series-most = down-most 16 1 one (lit≤ tt) (lit≤ tt) (lit≤ tt) (lit≤ tt)

module _ (b : Float) (h : Most 5 b) where
  square-most : Most 26 (b ⊗ b)
  square-most = mul_most b b 5 5 h h (lit≤ tt)

  sine-most : Most (5 * (17 * 6 ^ 16) + 1) (sine_series_of b)
  unfolding sine_series_of sine_divisor
  sine-most = mul_most b (series_of (λ n. divisor_of (2 * n)) (b ⊗ b)) 5 (17 * 6 ^ 16) h (series-most (λ n. 2 * n) (λ n l. omega (arith, l)) (lit≤ tt) (λ n l. omega (arith, l)) (b ⊗ b) square-most) (lit≤ tt)

  cosine-most : Most (17 * 6 ^ 16) (cosine_series_of b)
  unfolding cosine_series_of cosine_divisor
  cosine-most = series-most (λ n. 2 * n - 1) (λ n l. omega (arith, l)) (lit≤ tt) (λ n l. omega (arith, l)) (b ⊗ b) square-most

-- ---- what is answered
-- sine and cosine of a are numbers
abbrev pub Answered : Float → Type 0
Answered a = T (finite (sine_of a)) × T (finite (cosine_of a))

-- every angle up to 2 ^ 40 in size
pub answered : (a : Float) → T (le (abs_of a) far) → Answered a
unfolding sine_of cosine_of of_bits
answered a h =
    let m : Most 5 (reduced_of a) = le-most (reduced_of a) _ _ 5 (everywhere a h) (lit≤ tt) in
    (most-finite _ (sine_series_of (reduced_of a)) (sine-most (reduced_of a) m), most-finite _ (cosine_series_of (reduced_of a)) (cosine-most (reduced_of a) m))

half-most : Most 1 half
unfolding of_bits
half-most = lit≤ tt

-- half of every value up to 66 in size
pub half-answered : (y : Float) → Most 66 y → Answered (y ⊗ half) × Answered (neg y ⊗ half)
half-answered y h = (of y h, of (neg y) (most-neg 66 y h))
  where
    of : (y : Float) → Most 66 y → Answered (y ⊗ half)
    of y h = answered (y ⊗ half) (most-far (y ⊗ half) (most-more 67 1099511627776 (y ⊗ half) (mul_most y half 66 1 h half-most (lit≤ tt)) (lit≤ tt)))
