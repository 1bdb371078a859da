-- How large the angle is that the series of sine and cosine take: beyond 4.5 and up to 2 ^ 40 in size at most 3.142, of all up to 2 ^ 40 at most 4.5.
use Rattle.std.specs.Prelude.{◌≡◌, refl, ℕ, ◌+◌, ◌-◌, ◌*◌, ◌^◌, ◌≤◌, ◌<◌, Bool, true, false, not, ◌&&◌, ◌||◌, cond, ℤ, negsuc, T, ltb, eqb, Float}
use Rattle.std.proofs.Common.{sym, ap, ◌∙◌, subst, zero-lt-suc, mul-one, mul_comm, mul_assoc, mul_right_comm, add-mul, mul-pos, arith, true≢false, ltb→lt, lt→ltb, nltb→le, lit<, lit≤, pow_pos}
use Rattle.std.proofs.Math.Nat.{mul-sub}
use Rattle.std.specs.Float.{nan, inf, fin, binary64}
use Rattle.std.specs.Float.Ieee.{up, down, unlike, round, sum, sub, mul, div, of_int, of_bits, le, lt}
use Rattle.std.specs.Float.Ieee.Bits.{is_true}
use Rattle.std.specs.Float.Ieee.Fits.{down_pos}
use Rattle.std.specs.Float.Ieee.Exact.{HasValue}
use Rattle.std.specs.Float.Ieee.Back.{round_whole}
use Rattle.std.specs.Float.Ieee.Nearest.{closest, closest_same}
use Rattle.std.specs.Float.Ieee.Order.{le_of_values}
use Rattle.std.specs.Float.Ieee.Scale.{round_same}
use Rattle.whole.specs.Whole.{apart, signed, whole_of, signed_is}
use Rattle.whole.specs.Halves.{closest-halves}
use Rattle.whole.specs.Sizes.{says}
use Rattle.standins.specs.Num.{abs_of}
use Rattle.standins.specs.Reduction.{turn, unreduced, turned_of, reduced_of, turned-off, kept}
use Rattle.accuracy.specs.Error.{rounded}
use Rattle.accuracy.specs.Slack.{far-u, q-most, turns, k-pos, k-most, k-held, p-most, left-most, r-most, r-bound}

-- 32.1, a little more than half of a joint at 64
abbrev pub reach : Float
reach = of_bits binary64 0x4040_0ccc_cccc_cccd

-- 2 ^ 40
abbrev pub far : Float
far = of_bits binary64 0x4270_0000_0000_0000

-- 3.142, a little more than half a turn
abbrev pub reduced_most : Float
reduced_most = of_bits binary64 0x4009_22d0_e560_4189

abbrev U : ℕ
U = 2 ^ 1074

U_pos : 0 < U
U_pos = pow_pos 1074

abbrev circle : Float
circle = fin false 884279719003555 (negsuc 46)

is-circle : turn ≡ circle
unfolding of_bits
is-circle = refl

-- ---- the quotient
div_is : (s : Bool) (m : ℕ) (e : ℤ) → div binary64 (fin s m e) circle ≡ round binary64 s (m * up e * 140737488355328) (884279719003555 * 1 * down e)
unfolding div
div_is true m e = refl
div_is false m e = refl

-- ---- the whole number nearest to g units
whole_is : (y : Float) (s : Bool) (g : ℕ) → HasValue y s g U → whole_of y ≡ of_int binary64 (signed s (closest g U))
unfolding whole_of
whole_is nan s g h = absurd h
whole_is (inf t) s g h = absurd h
whole_is (fin t m e) s g h =
    ap (λ (b : Bool). of_int binary64 (signed b (closest (m * up e) (down e)))) h.0
    ∙ ap (λ (k : ℕ). of_int binary64 (signed s k)) (closest_same (m * up e) (down e) g U (down_pos e) U_pos h.1)

-- k of the sign s, for a k above 0
whole-held : (s : Bool) (k : ℕ) → 0 < k → k ≤ 9007199254740992 → HasValue (of_int binary64 (signed s k)) s k 1
whole-held s k K h = subst (λ (t : Bool). HasValue (of_int binary64 (signed s k)) t k 1) (sign s) (subst (λ (r : Float). HasValue r (s && ltb 0 k) k 1) (signed_is s k) (round_whole binary64 (s && ltb 0 k) k h))
  where
    sign : (s : Bool) → (s && ltb 0 k) ≡ s
    sign true = is_true (ltb 0 k) (lt→ltb 0 k K)
    sign false = refl

-- ---- the product
mul_is : (w : Float) (s : Bool) (k : ℕ) → HasValue w s k 1 → mul binary64 w circle ≡ round binary64 s (k * 884279719003555) 140737488355328
unfolding mul
mul_is nan s k h = absurd h
mul_is (inf t) s k h = absurd h
mul_is (fin t m e) s k h =
    round_same binary64 (unlike t false) (m * up e * (884279719003555 * 1)) (down e * 140737488355328) (k * 884279719003555) 140737488355328 (mul-pos (down_pos e) (zero-lt-suc 140737488355327)) (zero-lt-suc 140737488355327) (cross (m * up e) (down e) k h.1)
    ∙ ap (λ (b : Bool). round binary64 b (k * 884279719003555) 140737488355328) (plain t ∙ h.0)
  where
    cross : (a d k : ℕ) → a * 1 ≡ k * d → a * (884279719003555 * 1) * 140737488355328 ≡ k * 884279719003555 * (d * 140737488355328)
    cross a d k h = omega arith

    plain : (t : Bool) → unlike t false ≡ t
    plain true = refl
    plain false = refl

-- ---- the difference of two of one sign: its size is the sizes' difference
sub-mul : (a b c : ℕ) → (a - b) * c ≡ a * c - b * c
sub-mul a b c = mul_comm (a - b) c ∙ mul-sub c a b ∙ ap (λ (z : ℕ). z - c * b) (mul_comm c a) ∙ ap (λ (z : ℕ). a * c - z) (mul_comm c b)

apart-mul : (a b c : ℕ) → apart a b * c ≡ apart (a * c) (b * c)
apart-mul a b c = add-mul (a - b) (b - a) c ∙ ap (λ (z : ℕ). z + (b - a) * c) (sub-mul a b c) ∙ ap (λ (z : ℕ). a * c - b * c + z) (sub-mul b a c)

apart-under : (a b : ℕ) → a < b → b - a ≡ apart a b
apart-under a b h = omega arith

apart-over : (a b : ℕ) → b ≤ a → a - b ≡ apart a b
apart-over a b h = omega arith

sum_is : (s : Bool) (a b c : ℕ) → (t : Bool) × (sum binary64 s a (not s) b c ≡ round binary64 t (apart a b) c)
unfolding sum
sum_is true a b c = go (ltb a b) (ltb→lt a b) (nltb→le a b)
  where
    go : (p : Bool) → (T p → a < b) → (T (not p) → b ≤ a) → (t : Bool) × (cond p (round binary64 false (b - a) c) (round binary64 (ltb b a) (a - b) c) ≡ round binary64 t (apart a b) c)
    go true l g = (false, ap (λ (z : ℕ). round binary64 false z c) (apart-under a b (l tt)))
    go false l g = (ltb b a, ap (λ (z : ℕ). round binary64 (ltb b a) z c) (apart-over a b (g tt)))
sum_is false a b c = go (ltb a b) (ltb→lt a b) (nltb→le a b)
  where
    go : (p : Bool) → (T p → a < b) → (T (not p) → b ≤ a) → (t : Bool) × (cond p (round binary64 true (b - a) c) (round binary64 false (a - b) c) ≡ round binary64 t (apart a b) c)
    go true l g = (true, ap (λ (z : ℕ). round binary64 true z c) (apart-under a b (l tt)))
    go false l g = (false, ap (λ (z : ℕ). round binary64 false z c) (apart-over a b (g tt)))

scaled : (a d n f h u : ℕ) → n * u ≡ h * f → apart (a * f) (n * d) * (d * u) ≡ apart (a * u) (h * d) * (d * f)
scaled a d n f h u e =
    ap (λ (z : ℕ). apart (a * f) (n * d) * z) (mul_comm d u)
    ∙ sym (mul_assoc (apart (a * f) (n * d)) u d)
    ∙ ap (λ (z : ℕ). z * d) (apart-mul (a * f) (n * d) u ∙ ap (λ (z : ℕ). apart z (n * d * u)) (mul_right_comm a f u) ∙ ap (λ (z : ℕ). apart (a * u * f) z) (mul_right_comm n d u ∙ ap (λ (z : ℕ). z * d) e ∙ mul_right_comm h f d) ∙ sym (apart-mul (a * u) (h * d) f))
    ∙ mul_assoc (apart (a * u) (h * d)) f d
    ∙ ap (λ (z : ℕ). apart (a * u) (h * d) * z) (mul_comm f d)

sub_is : (s : Bool) (m : ℕ) (e : ℤ) (p : Float) (h : ℕ) → HasValue p s h U → (t : Bool) × (sub binary64 (fin s m e) p ≡ round binary64 t (apart (m * up e * U) (h * down e)) (down e * U))
unfolding sub
sub_is s m e nan h v = absurd v
sub_is s m e (inf b) h v = absurd v
sub_is s m e (fin b n f) h v =
    let a = m * up e * down f in
    let c = n * up f * down e in
    let r = sum_is s a c (down e * down f) in (
      r.0,
      ap (λ (x : Bool). sum binary64 s a (not x) c (down e * down f)) v.0
          ∙ r.1
          ∙ round_same binary64 r.0 (apart a c) (down e * down f) (apart (m * up e * U) (h * down e)) (down e * U) (mul-pos (down_pos e) (down_pos f)) (mul-pos (down_pos e) U_pos)
          (scaled (m * up e) (down e) (n * up f) (down f) h U v.1),
    )

-- ---- all together: a - k·turn is at most 3.142 in size, for 4.5 < |a| ≤ 2 ^ 40
record Small (y : Float) : Type 0 where
  sign : Bool
  units : ℕ
  value : HasValue y sign units U
  most : 100000 * units ≤ 314197 * U

turned-small : (s : Bool) (m : ℕ) (e : ℤ) → 9 * down e < 2 * (m * up e) → m * up e ≤ 1099511627776 * down e → Small (turned_of (fin s m e))
unfolding turned_of
turned-small s m e near far =
    let a = m * up e in
    let d = down e in
    let D : 0 < d = down_pos e in
    let big : 884279719003555 ≤ U = lit≤ tt in
    let q = rounded s (a * 140737488355328) (884279719003555 * 1 * d) (1099511627776 * U) (mul-pos (zero-lt-suc 884279719003554) D) (q-most a d U (far-u a d U far)) (lit< tt) in
    let k = closest q.units U in
    let t = turns a d U q.units k far big q.near (closest-halves q.units U U_pos) in
    let K = k-most a d U k U_pos D far t in
    let w = whole-held s k (k-pos a d U k U_pos near t) (k-held k K) in
    let p = rounded s (k * 884279719003555) 140737488355328 (2199023255552 * U) (zero-lt-suc 140737488355327) (p-most k U K) (lit< tt) in
    let z = left-most a d U k p.units big K t p.near in
    let f = sub_is s m e (round binary64 s (k * 884279719003555) 140737488355328) p.units p.value in
    let r = rounded f.0 (apart (a * U) (p.units * d)) (d * U) (4 * U) (mul-pos D U_pos) (r-most (apart (a * U) (p.units * d)) d U z) (lit< tt) in
    let is : sub binary64 (fin s m e) (mul binary64 (whole_of (div binary64 (fin s m e) turn)) turn) ≡ round binary64 f.0 (apart (a * U) (p.units * d)) (d * U) =
    ap (λ (c : Float). sub binary64 (fin s m e) (mul binary64 (whole_of (div binary64 (fin s m e) c)) c)) is-circle
    ∙ ap (λ (y : Float). sub binary64 (fin s m e) (mul binary64 y circle)) (ap whole_of (div_is s m e) ∙ whole_is (round binary64 s (a * 140737488355328) (884279719003555 * 1 * d)) s q.units q.value)
    ∙ ap (λ (y : Float). sub binary64 (fin s m e) y) (mul_is (of_int binary64 (signed s k)) s k w)
    ∙ f.1 in
    record {
      sign = f.0;
      units = r.units;
      value = subst (λ (y : Float). HasValue y f.0 r.units U) (sym is) r.value;
      most = r-bound (apart (a * U) (p.units * d)) d U r.units D big z r.near;
    }

-- ---- in the order of the floats
size-value : (y : Float) (s : Bool) (a c : ℕ) → HasValue y s a c → HasValue (abs_of y) false a c
unfolding abs_of
size-value nan s a c h = absurd h
size-value (inf t) s a c h = absurd h
size-value (fin t m e) s a c h = (refl, h.1)

half-value : HasValue reduced_most false 7075155014599049 2251799813685248
unfolding of_bits
half-value = (refl, refl)

unreduced-value : HasValue unreduced false 9 2
unfolding of_bits
unreduced-value = (refl, refl)

small-half : (y : Float) → Small y → T (le (abs_of y) reduced_most)
small-half y s = le_of_values (abs_of y) reduced_most s.units U 7075155014599049 2251799813685248 U_pos (zero-lt-suc 2251799813685247) (size-value y s.sign s.units U s.value) half-value (go s.units U s.most)
  where
    go : (r u : ℕ) → 100000 * r ≤ 314197 * u → r * 2251799813685248 ≤ 7075155014599049 * u
    go r u h = omega arith

small-kept : (y : Float) → Small y → T (le (abs_of y) unreduced)
small-kept y s = le_of_values (abs_of y) unreduced s.units U 9 2 U_pos (zero-lt-suc 1) (size-value y s.sign s.units U s.value) unreduced-value (go s.units U s.most)
  where
    go : (r u : ℕ) → 100000 * r ≤ 314197 * u → r * 2 ≤ 9 * u
    go r u h = omega arith

-- what the two tests say
small-beyond : (a : Float) → T (le (abs_of a) far) → T (lt unreduced (abs_of a)) → Small (turned_of a)
unfolding of_bits abs_of le lt
small-beyond nan f l = absurd f
small-beyond (inf s) f l = absurd f
small-beyond (fin s m e) f l =
    let x = m * up e * 1 in
    let y = 1099511627776 * down e in
    turned-small s m e (twice (m * up e) (down e) (ltb→lt (9 * 1 * down e) (m * up e * 2) l)) (subst (λ (z : ℕ). z ≤ y) (mul-one (m * up e)) (says x y x y (λ (q : x ≡ y). q) (is_true (ltb x y || (eqb x y && true)) f)))
  where
    twice : (a d : ℕ) → 9 * 1 * d < a * 2 → 9 * d < 2 * a
    twice a d h = omega arith

-- 4.5 < |a| ≤ 2 ^ 40: the result is at most 3.142 in size
pub beyond : (a : Float) → T (le (abs_of a) far) → T (lt unreduced (abs_of a)) → T (le (abs_of (reduced_of a)) reduced_most)
beyond a f l = rw (turned-off a (is_true _ l)) (small-half (turned_of a) (small-beyond a f l))

-- not above 4.5, and a number
within : (a : Float) → T (le (abs_of a) far) → lt unreduced (abs_of a) ≡ false → T (le (abs_of a) unreduced)
unfolding of_bits abs_of le lt
within nan f l = absurd f
within (inf s) f l = absurd (true≢false l)
within (fin s m e) f l =
    le_of_values (fin false m e) unreduced (m * up e) (down e) 9 2 (down_pos e) (zero-lt-suc 1) (refl, refl) unreduced-value
    (nltb→le (9 * 1 * down e) (m * up e * 2) (subst (λ (b : Bool). T (not b)) (sym l) tt))

-- |a| ≤ 2 ^ 40: the result is at most 4.5 in size
pub everywhere : (a : Float) → T (le (abs_of a) far) → T (le (abs_of (reduced_of a)) unreduced)
everywhere a f = go (lt unreduced (abs_of a)) refl
  where
    go : (b : Bool) → lt unreduced (abs_of a) ≡ b → T (le (abs_of (reduced_of a)) unreduced)
    go true e = rw (turned-off a e) (small-kept (turned_of a) (small-beyond a f (subst T (sym e) tt)))
    go false e = rw (kept a e) (within a f e)

-- the same for |a| ≤ 32.1
nearer : (a : Float) → T (le (abs_of a) reach) → T (le (abs_of a) far)
unfolding of_bits abs_of le
nearer nan f = absurd f
nearer (inf s) f = absurd f
nearer (fin s m e) f =
    let x = m * up e * 140737488355328 in
    let y = 4517673376206029 * down e in
    le_of_values (fin false m e) far (m * up e) (down e) 1099511627776 1 (down_pos e) (zero-lt-suc 0) (refl, refl) (refl, refl)
    (less (m * up e) (down e) (says x y x y (λ (q : x ≡ y). q) (is_true (ltb x y || (eqb x y && true)) f)))
  where
    less : (a d : ℕ) → a * 140737488355328 ≤ 4517673376206029 * d → a * 1 ≤ 1099511627776 * d
    less a d h = far (a * 1) d (near a d h)
      where
        near : (a d : ℕ) → a * 140737488355328 ≤ 4517673376206029 * d → a * 1 ≤ 33 * d
        near a d h = omega arith

        far : (a d : ℕ) → a ≤ 33 * d → a ≤ 1099511627776 * d
        far a d h = omega arith

pub beyond-32 : (a : Float) → T (le (abs_of a) reach) → T (lt unreduced (abs_of a)) → T (le (abs_of (reduced_of a)) reduced_most)
beyond-32 a f l = beyond a (nearer a f) l

pub everywhere-32 : (a : Float) → T (le (abs_of a) reach) → T (le (abs_of (reduced_of a)) unreduced)
everywhere-32 a f = everywhere a (nearer a f)
