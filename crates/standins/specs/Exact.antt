-- Where the operators round nothing: a value of the format rounds to itself, so products with 1, -1 and 0 and sums with 0 are exact. And which sums are -0.
use Rattle.std.specs.Prelude.{◌≡◌, refl, Bool, true, false, ◌&&◌, cond, ℤ, pos, negsuc, T, ltb, eqb, Float}
use Rattle.std.proofs.Common.{sym, ap, ◌∙◌, subst, le_trans, le_of_eq, le_antisymm, le_of_suc-le-suc, lt_of_lt_of_le, lt_of_not-le, not-le_of_lt, zero-lt-suc, add-zero, zero-mul, mul-one, one-mul, mul_comm, mul_assoc, mul_right_comm, add-mul, mul-le-mul_right, mul-lt-mul_of_pos_right, lt_of_mul-lt-mul_right, le_of_mul-le-mul_right, mul-pos, le_of_lt, le-div_iff_mul-le, arith, true≢false, ltb-true, eqb-true, lt-ltb, le-ltb, eq-eqb, pow-add, pow_pos}
use Prim.Native.Nat.{ℕ, zero, suc, ◌+◌, ◌-◌, ◌*◌, ◌/◌, ◌%◌, ◌^◌, ◌≤◌, ◌<◌, zero-le, compare}
use Rattle.std.proofs.Math.Nat.{sub-zero, eq_of_mul-eq-mul_right, div-div-eq-div-mul}
use Rattle.std.proofs.lemmas.Bool.{false≢true}
use Rattle.std.proofs.Math.Pow.{pow-lt}
use Rattle.std.specs.Float.{nan, inf, fin, Format, binary64}
use Rattle.std.specs.Float.Ieee.{prec, emax, low, unlike, up, down, size, nearest, odd, units, round, neg, sum, add, mul, fits, hid, top, of_bits, to_bits}
use Rattle.std.specs.Float.Ieee.Digits.{back, size-lt, size_reaches}
use Rattle.std.specs.Float.Ieee.Fits.{up_pos, down_pos, two, two-le_pos, round_is, round-fits}
use Rattle.std.specs.Float.Ieee.Exact.{HasValue, odd_sign, round_exact}
use Rattle.std.specs.Float.Ieee.Nearest.{div_same, nearest-ge}
use Rattle.std.specs.Float.Ieee.Order.{transfer}
use Rattle.std.specs.Float.Ieee.Scale.{round_same}
use Rattle.std.specs.Float.Ieee.Bits.{of_bits-to_bits}
use Rattle.whole.specs.Fits.{fits-says}
use Rattle.standins.specs.Num.{◌⊕◌, ◌⊗◌, nought, one}

-- ---- one value for each number
same_bits : (f : Format) (x y : Float) (s : Bool) (a c : ℕ) → 0 < c → HasValue x s a c → HasValue y s a c → to_bits f x ≡ to_bits f y
unfolding to_bits
same_bits f nan y s a c C p q = absurd p
same_bits f (inf t) y s a c C p q = absurd p
same_bits f (fin t m e) nan s a c C p q = absurd q
same_bits f (fin t m e) (inf u) s a c C p q = absurd q
same_bits f (fin t m e) (fin u n d) s a c C p q =
    let l = 2 ^ low f in
    let below : m * up e * down d ≤ n * up d * down e = transfer (m * up e) (n * up d) (down e) (down d) a a c c C C p.1 q.1 (le_of_eq refl) in
    let above : n * up d * down e ≤ m * up e * down d = transfer (n * up d) (m * up e) (down d) (down e) a a c c C C q.1 p.1 (le_of_eq refl) in
    let same : m * up e * l * down d ≡ n * up d * l * down e =
    mul_right_comm (m * up e) l (down d) ∙ ap (λ (x : ℕ). x * l) (le_antisymm below above) ∙ mul_right_comm (n * up d) (down e) l in
    let sign : t ≡ u = p.0 ∙ sym q.0 in
    let size_same : m * up e * l / down e ≡ n * up d * l / down d = div_same (m * up e * l) (down e) (n * up d * l) (down d) (down_pos e) (down_pos d) same in
    λ i. cond (sign i) (top f) 0 + (size (size_same i) - prec f) * hid f + size_same i / 2 ^ (size (size_same i) - prec f)

-- two values of a format that are the same number with the same sign are the same value
pub value-unique : (f : Format) (x y : Float) (s : Bool) (a c : ℕ) → 0 < c → T (fits f x) → T (fits f y) → HasValue x s a c → HasValue y s a c → x ≡ y
value-unique f x y s a c C h k p q = sym (of_bits-to_bits f x h) ∙ ap (of_bits f) (same_bits f x y s a c C p q) ∙ of_bits-to_bits f y k

-- ---- a value of a format, in its smallest units
no_longer : (i j : ℕ) → 2 ^ i ≤ 2 ^ j → i ≤ j
no_longer i j h = le_of_suc-le-suc (lt_of_not-le (λ (g : suc j ≤ i). not-le_of_lt (pow-lt g) h))

-- 2 ^ e is a whole number of units of 2 ^ -l, if it is one at least
steps_of : (e : ℤ) (l : ℕ) → down e ≤ 2 ^ l → (j : ℕ) × (up e * 2 ^ l ≡ 2 ^ j * down e)
steps_of (pos k) l h = (k + l, sym (pow-add 2 k l) ∙ sym (mul-one (2 ^ (k + l))))
steps_of (negsuc k) l h = (l - suc k, one-mul (2 ^ l) ∙ ap (λ (x : ℕ). 2 ^ x) (sym (back l (suc k) (no_longer (suc k) l h))) ∙ pow-add 2 (l - suc k) (suc k))

-- so m * 2 ^ e is m * 2 ^ j units
in-units : (f : Format) (s : Bool) (m : ℕ) (e : ℤ) → T (fits f (fin s m e)) → (j : ℕ) × (m * up e * 2 ^ low f ≡ m * 2 ^ j * down e)
in-units f s m e h =
    let k = steps_of e (low f) (fits-says f s m e h).1 in
    (k.0, mul_assoc m (up e) (2 ^ low f) ∙ ap (λ (x : ℕ). m * x) k.1 ∙ sym (mul_assoc m (2 ^ k.0) (down e)))

-- a value of the format rounds to itself
pub round-self : (f : Format) (s : Bool) (m : ℕ) (e : ℤ) → T (fits f (fin s m e)) → round f s (m * up e) (down e) ≡ fin s m e
round-self f s m e h =
    let k = fits-says f s m e h in
    let u = in-units f s m e h in
    let l = low f in
    let p = suc (emax f) in
    let scaled : m * 2 ^ u.0 * down e < 2 ^ (l + p) * down e =
    subst (λ (x : ℕ). x < 2 ^ (l + p) * down e) u.1
    (lt_of_lt_of_le (mul-lt-mul_of_pos_right k.2 (pow_pos l))
    (le_of_eq (mul_right_comm (2 ^ p) (down e) (2 ^ l) ∙ ap (λ (x : ℕ). x * down e) (mul_comm (2 ^ p) (2 ^ l) ∙ sym (pow-add 2 l p))))) in
    value-unique f (round f s (m * up e) (down e)) (fin s m e) s (m * up e) (down e) (down_pos e) (round-fits f s (m * up e) (down e)) h
    (round_exact f s (m * up e) (down e) m u.0 (down_pos e) k.0 (lt_of_mul-lt-mul_right (down e) scaled) u.1)
    (refl, refl)

-- ---- the factors 1, -1 and 0
other_sign : (f : Format) (s t : Bool) (m : ℕ) (e : ℤ) → T (fits f (fin s m e)) → T (fits f (fin t m e))
unfolding fits
other_sign f s t zero e h = h
other_sign f s t (suc m) e h = h

unit-times : (s t : Bool) (m : ℕ) (e : ℤ) → T (fits binary64 (fin t m e)) → fin s 1 (pos 0) ⊗ fin t m e ≡ fin (unlike s t) m e
unfolding mul
unit-times s t m e h =
    ap (λ (x : ℕ). round binary64 (unlike s t) x (1 * down e)) (one-mul (m * up e))
    ∙ ap (round binary64 (unlike s t) (m * up e)) (one-mul (down e))
    ∙ round-self binary64 (unlike s t) m e (other_sign binary64 t (unlike s t) m e h)

-- 1 times v is v
pub one-times : (v : Float) → T (fits binary64 v) → one ⊗ v ≡ v
unfolding of_bits mul
one-times nan h = refl
one-times (inf true) h = refl
one-times (inf false) h = refl
one-times (fin true m e) h = unit-times false true m e h
one-times (fin false m e) h = unit-times false false m e h

-- -1 times v is -v
pub minus-one-times : (v : Float) → T (fits binary64 v) → neg one ⊗ v ≡ neg v
unfolding of_bits mul neg
minus-one-times nan h = refl
minus-one-times (inf true) h = refl
minus-one-times (inf false) h = refl
minus-one-times (fin true m e) h = unit-times true true m e h
minus-one-times (fin false m e) h = unit-times true false m e h

-- the zero of v's sign; a NaN if v is not finite
abbrev pub zero_like : Float → Float
zero_like nan = nan
zero_like (inf s) = nan
zero_like (fin s m e) = fin s 0 (pos 0)

round-zero : (s : Bool) (a c : ℕ) → 0 < c → round binary64 s (0 * a) (1 * c) ≡ fin s 0 (pos 0)
round-zero s a c C = round_same binary64 s (0 * a) (1 * c) 0 1 (mul-pos (zero-lt-suc 0) C) (zero-lt-suc 0) (omega arith) ∙ round-self binary64 s 0 (pos 0) (unfold fits in tt)

-- +0 times v is that
pub nought-times : (v : Float) → nought ⊗ v ≡ zero_like v
unfolding of_bits mul
nought-times nan = refl
nought-times (inf s) = refl
nought-times (fin true m e) = round-zero true (m * up e) (down e) (down_pos e)
nought-times (fin false m e) = round-zero false (m * up e) (down e) (down_pos e)

-- ---- sums that are -0
-- whether x is -0
abbrev pub minus_zero : Float → Bool
minus_zero nan = false
minus_zero (inf s) = false
minus_zero (fin s m e) = s && eqb m 0

zero_of : (a d : ℕ) → 0 < d → a * d ≡ 0 → a ≡ 0
zero_of a d D h = eq_of_mul-eq-mul_right d D a 0 (h ∙ sym (zero-mul d))

minus-zero-value : (x : Float) (s : Bool) (a c : ℕ) → minus_zero x ≡ true → HasValue x s a c → (s ≡ true) × (a ≡ 0)
minus-zero-value nan s a c h v = absurd v
minus-zero-value (inf t) s a c h v = absurd v
minus-zero-value (fin false m e) s a c h v = absurd (false≢true h)
minus-zero-value (fin true m e) s a c h v = (
  sym v.0,
  zero_of a (down e) (down_pos e) (sym v.1 ∙ ap (λ (x : ℕ). x * up e * c) (eqb-true m 0 h) ∙ ap (λ (x : ℕ). x * c) (zero-mul (up e)) ∙ zero-mul c),
)

units-minus-zero : (f : Format) (s : Bool) (q k : ℕ) → minus_zero (units f s q k) ≡ true → (s ≡ true) × (q ≡ 0)
unfolding units
units-minus-zero f s q k = go (ltb (q * 2 ^ k) (2 ^ (low f + suc (emax f))))
  where
    go : (b : Bool) → minus_zero (cond b (odd (suc (prec f)) s q k (low f)) (inf s)) ≡ true → (s ≡ true) × (q ≡ 0)
    go true h =
        let r = minus-zero-value (odd (suc (prec f)) s q k (low f)) s (q * 2 ^ k) (2 ^ low f) h (odd_sign (suc (prec f)) s q k (low f)) in
        (r.0, zero_of q (2 ^ k) (pow_pos k) r.1)
    go false h = absurd (false≢true h)

some-digit : (z w : ℕ) → 0 < w → w < 2 ^ z → 0 < z
some-digit zero w h g = absurd (not-le_of_lt g h)
some-digit (suc z) w h g = zero-lt-suc z

fewer : (z p : ℕ) → 0 < z → 0 < p → z - p < z
fewer z p h g = omega arith

none : (q r : ℕ) → 0 < q → q ≤ r → r ≡ 0 → ⊥
none q r a b c = omega arith

-- a fraction that rounds to -0 is below one unit
round-minus-zero : (f : Format) (s : Bool) (a c : ℕ) → 0 < c → minus_zero (round f s a c) ≡ true → (s ≡ true) × (a * 2 ^ low f < c)
round-minus-zero f s a c C h =
    let n = a * 2 ^ low f in
    let w = n / c in
    let k = size w - prec f in
    let u = c * 2 ^ k in
    let r = units-minus-zero f s (nearest (n / u) (compare (n % u * 2) u)) k (subst (λ (x : Float). minus_zero x ≡ true) (round_is f s a c) h) in (
      r.0,
      lt_of_not-le (λ (g : c ≤ n).
          let W : 0 < w = (le-div_iff_mul-le C).1 (le_trans (le_of_eq (one-mul c)) g) in
          let reaches : 2 ^ k ≤ w = size_reaches w k (fewer (size w) (prec f) (some-digit (size w) w W (size-lt w)) (two-le_pos (prec f) (two f))) in
          none (n / u) (nearest (n / u) (compare (n % u * 2) u))
          (subst (λ (x : ℕ). 0 < x) (div-div-eq-div-mul n c (2 ^ k)) ((le-div_iff_mul-le (pow_pos k)).1 (le_trans (le_of_eq (one-mul (2 ^ k))) reaches)))
          (nearest-ge (n / u) (compare (n % u * 2) u)) r.1),
    )

-- with a and b whole numbers of units, no difference but 0 is below one unit
apart : (a b c l x y : ℕ) → 0 < l → a * l ≡ x * c → b * l ≡ y * c → a < b → (b - a) * l < c → ⊥
apart a b c l x y L p q h g =
    let joined : (b - a) * l + a * l ≡ b * l = sym (add-mul (b - a) a l) ∙ ap (λ (z : ℕ). z * l) (back b a (le_of_lt h)) in
    let near : y * c < suc x * c = close ((b - a) * l) (a * l) (b * l) c x y joined g p q in
    let order : b * l ≤ a * l = le_trans (le_of_eq q) (le_trans (mul-le-mul_right c (le_of_suc-le-suc (lt_of_mul-lt-mul_right c near))) (le_of_eq (sym p))) in
    not-le_of_lt h (le_of_mul-le-mul_right order L)
  where
    close : (w v u c x y : ℕ) → w + v ≡ u → w < c → v ≡ x * c → u ≡ y * c → y * c < suc x * c
    close w v u c x y j g p q = omega arith

and_right : (s t : Bool) → (s && t) ≡ true → t ≡ true
and_right true t h = h
and_right false t h = absurd (false≢true h)

-- terms of unlike signs
never-mixed : (f : Format) (s t : Bool) (a b c x y : ℕ) → 0 < c → a * 2 ^ low f ≡ x * c → b * 2 ^ low f ≡ y * c
    → minus_zero (cond (ltb a b) (round f t (b - a) c) (round f (s && ltb b a) (a - b) c)) ≡ true → ⊥
never-mixed f s t a b c x y C p q = go (ltb a b) refl
  where
    go : (k : Bool) → ltb a b ≡ k → minus_zero (cond k (round f t (b - a) c) (round f (s && ltb b a) (a - b) c)) ≡ true → ⊥
    go true e h = apart a b c (2 ^ low f) x y (pow_pos (low f)) p q (ltb-true a b e) (round-minus-zero f t (b - a) c C h).1
    go false e h =
        let r = round-minus-zero f (s && ltb b a) (a - b) c C h in
        apart b a c (2 ^ low f) y x (pow_pos (low f)) q p (ltb-true b a (and_right s (ltb b a) r.0)) r.1

both-none : (a b c l x y : ℕ) → a * l ≡ x * c → b * l ≡ y * c → (a + b) * l < c → (x ≡ 0) × (y ≡ 0)
both-none a b c l x y p q h =
    let near : (x + y) * c < 1 * c = close a b c l x y p q h in
    let few : x + y < 1 = lt_of_mul-lt-mul_right c near in
    (left x y few, right x y few)
  where
    close : (a b c l x y : ℕ) → a * l ≡ x * c → b * l ≡ y * c → (a + b) * l < c → (x + y) * c < 1 * c
    close a b c l x y p q h = omega arith

    left : (x y : ℕ) → x + y < 1 → x ≡ 0
    left x y h = omega arith

    right : (x y : ℕ) → x + y < 1 → y ≡ 0
    right x y h = omega arith

sum-parts : (f : Format) (s t : Bool) (a b c x y : ℕ) → 0 < c → a * 2 ^ low f ≡ x * c → b * 2 ^ low f ≡ y * c
    → minus_zero (sum f s a t b c) ≡ true → (s ≡ true) × (t ≡ true) × (x ≡ 0) × (y ≡ 0)
unfolding sum
sum-parts f true true a b c x y C p q h =
    let z = both-none a b c (2 ^ low f) x y p q (round-minus-zero f true (a + b) c C h).1 in
    (refl, refl, z.0, z.1)
sum-parts f true false a b c x y C p q h = absurd (never-mixed f true false a b c x y C p q h)
sum-parts f false true a b c x y C p q h = absurd (never-mixed f false true a b c x y C p q h)
sum-parts f false false a b c x y C p q h = absurd (false≢true (round-minus-zero f false (a + b) c C h).0)

is-minus-zero : (s : Bool) (m j : ℕ) (e : ℤ) → s ≡ true → m * 2 ^ j ≡ 0 → minus_zero (fin s m e) ≡ true
is-minus-zero s m j e p q = ap (λ (b : Bool). b && eqb m 0) p ∙ eq-eqb m 0 (zero_of m (2 ^ j) (pow_pos j) q)

-- a sum is -0 only if both its terms are
pub sum-minus-zero : (x y : Float) → T (fits binary64 x) → T (fits binary64 y) → minus_zero (x ⊕ y) ≡ true → (minus_zero x ≡ true) × (minus_zero y ≡ true)
unfolding add
sum-minus-zero nan y k l h = absurd (false≢true h)
sum-minus-zero (inf s) nan k l h = absurd (false≢true h)
sum-minus-zero (inf true) (inf true) k l h = absurd (false≢true h)
sum-minus-zero (inf true) (inf false) k l h = absurd (false≢true h)
sum-minus-zero (inf false) (inf true) k l h = absurd (false≢true h)
sum-minus-zero (inf false) (inf false) k l h = absurd (false≢true h)
sum-minus-zero (inf s) (fin t n d) k l h = absurd (false≢true h)
sum-minus-zero (fin s m e) nan k l h = absurd (false≢true h)
sum-minus-zero (fin s m e) (inf t) k l h = absurd (false≢true h)
sum-minus-zero (fin s m e) (fin t n d) k l h =
    let w = 2 ^ low binary64 in
    let i = in-units binary64 s m e k in
    let j = in-units binary64 t n d l in
    let x = m * 2 ^ i.0 in
    let y = n * 2 ^ j.0 in
    let p : m * up e * down d * w ≡ x * (down e * down d) = mul_right_comm (m * up e) (down d) w ∙ ap (λ (z : ℕ). z * down d) i.1 ∙ mul_assoc x (down e) (down d) in
    let q : n * up d * down e * w ≡ y * (down e * down d) =
    mul_right_comm (n * up d) (down e) w ∙ ap (λ (z : ℕ). z * down e) j.1 ∙ mul_assoc y (down d) (down e) ∙ ap (λ (z : ℕ). y * z) (mul_comm (down d) (down e)) in
    let r = sum-parts binary64 s t (m * up e * down d) (n * up d * down e) (down e * down d) x y (mul-pos (down_pos e) (down_pos d)) p q h in
    (is-minus-zero s m i.0 e r.0 r.2, is-minus-zero t n j.0 d r.1 r.3)

-- ---- a term 0
sum-zero : (f : Format) (s t : Bool) (a c : ℕ) → (s ≡ true → 0 < a) → sum f s a t 0 c ≡ round f s a c
unfolding sum
sum-zero f true true a c h = ap (λ (x : ℕ). round f true x c) (add-zero a)
sum-zero f false false a c h = ap (λ (x : ℕ). round f false x c) (add-zero a)
sum-zero f false true a c h =
    ap (λ (b : Bool). cond b (round f true (0 - a) c) (round f false (a - 0) c)) (le-ltb a 0 zero-le) ∙ ap (λ (x : ℕ). round f false x c) (sub-zero a)
sum-zero f true false a c h =
    ap (λ (b : Bool). cond b (round f false (0 - a) c) (round f (ltb 0 a) (a - 0) c)) (le-ltb a 0 zero-le)
    ∙ ap (λ (b : Bool). round f b (a - 0) c) (lt-ltb 0 a (h refl))
    ∙ ap (λ (x : ℕ). round f true x c) (sub-zero a)

not-zero : (s : Bool) (m : ℕ) (e : ℤ) → minus_zero (fin s m e) ≡ false → s ≡ true → 0 < m * up e
not-zero s zero e h p = absurd (true≢false (sym (ap (λ (b : Bool). b && eqb 0 0) p) ∙ h))
not-zero s (suc m) e h p = mul-pos (zero-lt-suc m) (up_pos e)

-- a zero of either sign, added to a value that is not -0, leaves it as it is
pub plus-zero : (c : Float) (t : Bool) → T (fits binary64 c) → minus_zero c ≡ false → c ⊕ fin t 0 (pos 0) ≡ c
unfolding add
plus-zero nan t k h = refl
plus-zero (inf s) t k h = refl
plus-zero (fin s m e) t k h =
    ap (λ (x : ℕ). sum binary64 s x t (0 * down e) (down e * 1)) (mul-one (m * up e))
    ∙ ap (λ (x : ℕ). sum binary64 s (m * up e) t x (down e * 1)) (zero-mul (down e))
    ∙ ap (sum binary64 s (m * up e) t 0) (mul-one (down e))
    ∙ sum-zero binary64 s t (m * up e) (down e) (not-zero s m e h)
    ∙ round-self binary64 s m e k
