-- The four ways through `nearest_whole`.
use mathlib.Core.Path.{◌≡◌, refl, sym, ap, ◌∙◌, subst}
use Prim.Native.Nat.{ℕ, zero, suc, ◌+◌, ◌-◌, ◌*◌, ◌^◌, ◌≤◌, ◌<◌}
use native.Mathlib.Nat.{le_of_eq, not-le_of_lt, zero-lt-suc, mul-one, mul-pos}
use native.Mathlib.Omega.{arith}
use mathlib.Core.Bool.{Bool, true, false, ◌&&◌, ◌||◌, cond, true≢false, false≢true}
use lib.IntN.{ℤ, pos, negsuc, neg_ℤ}
use lib.Dec.{T, ltb, eqb, ltb→lt, eqb→eq, lt→ltb}
use lib.Pow.{pow_pos}
use lib.Ieee.{Float, nan, inf, fin, binary64, up, down, round, add, sub, neg, of_int, le, lt, fits}
use lib.Ieee.Bits.{is_true}
use lib.Ieee.Fits.{and_l, and_r, down_pos, up_pos, of_int-fits}
use lib.Ieee.Exact.{HasValue}
use lib.Ieee.Back.{whole_unique}
use lib.Ieee.Nearest.{closest, closest_same}
use Rattle.whole.specs.Whole.{signed, whole_of}
use Rattle.whole.specs.Halves.{closest-one}
use Rattle.whole.specs.Fits.{fits-says}
use Rattle.whole.specs.Sizes.{says, denies}
use Rattle.whole.proofs.Nearest.{closest-zero, halved, nearest-held}
use Rattle.whole.proofs.Raised.{p52, raised, down-plus, up-minus}

-- ---- a size of 2 ^ 52 or more
large : (s : Bool) (m : ℕ) (e : ℤ) → T (fits binary64 (fin s m e)) → 4503599627370496 * down e ≤ m * up e → fin s m e ≡ of_int binary64 (signed s (closest (m * up e) (down e)))
large s zero e f h = absurd (no (up e) (down e) (down_pos e) h)
  where
    no : (u d : ℕ) → 0 < d → 4503599627370496 * d ≤ 0 * u → ⊥
    no u d D h = omega arith
large s (suc m) (negsuc j) f h = absurd (not-le_of_lt (halved (suc m) j (fits-says binary64 s (suc m) (negsuc j) f).0) h)
large s (suc m) (pos j) f h =
    let k = closest (suc m * 2 ^ j) 1 in
    let v = subst (λ (t : Bool). HasValue (of_int binary64 (signed s k)) t k 1) (sign s (suc m * 2 ^ j) k (mul-pos (zero-lt-suc m) (pow_pos j)) (closest-one (suc m * 2 ^ j))) (nearest-held s (suc m) (pos j) f).value in
    whole_unique binary64 (fin s (suc m) (pos j)) (of_int binary64 (signed s k)) s k f (of_int-fits binary64 (signed s k)) (refl, ap (λ (z : ℕ). z * 1) (sym (closest-one (suc m * 2 ^ j)))) v
  where
    sign : (s : Bool) (a k : ℕ) → 0 < a → k ≡ a → (s && ltb 0 k) ≡ s
    sign false a k h e = refl
    sign true a k h e = is_true (ltb 0 k) (lt→ltb 0 k (subst (λ (z : ℕ). 0 < z) (sym e) h))

-- ---- the tests
pub over-test : (x : Float) → T (fits binary64 x) → le p52 x ≡ true → x ≡ whole_of x
unfolding le whole_of
over-test nan f h = refl
over-test (inf s) f h = refl
over-test (fin true m e) f h = absurd (no (4503599627370496 * down e) (m * up e * 1) (mul-pos (zero-lt-suc 4503599627370495) (down_pos e)) h)
  where
    no : (a b : ℕ) → 0 < a → (false || (eqb a b && (false || eqb a 0))) ≡ true → ⊥
    no a b A h = not-le_of_lt A (le_of_eq (eqb→eq a 0 (and_r (eqb a b) (eqb a 0) (subst T (sym h) tt))))
over-test (fin false m e) f h =
    let a = 4503599627370496 * down e in
    let b = m * up e * 1 in
    large false m e f (subst (λ (z : ℕ). a ≤ z) (mul-one (m * up e)) (says a b a b (λ (q : a ≡ b). q) h))

pub under-test : (x : Float) → T (fits binary64 x) → le x (neg p52) ≡ true → x ≡ whole_of x
unfolding le neg whole_of
under-test nan f h = refl
under-test (inf s) f h = refl
under-test (fin false m e) f h = absurd (no (m * up e * 1) (4503599627370496 * down e) (mul-pos (zero-lt-suc 4503599627370495) (down_pos e)) h)
  where
    no : (a b : ℕ) → 0 < b → (false || (eqb a b && (false || eqb a 0))) ≡ true → ⊥
    no a b B h =
        let t : T (eqb a b && eqb a 0) = subst T (sym h) tt in
        not-le_of_lt B (le_of_eq (sym (eqb→eq a b (and_l (eqb a b) (eqb a 0) t)) ∙ eqb→eq a 0 (and_r (eqb a b) (eqb a 0) t)))
under-test (fin true m e) f h =
    let a = 4503599627370496 * down e in
    let b = m * up e * 1 in
    large true m e f (subst (λ (z : ℕ). a ≤ z) (mul-one (m * up e)) (says a b b a (λ (q : b ≡ a). sym q) h))

-- ---- a size below 2 ^ 52
lifted : (s : Bool) (n d : ℕ) → 0 < d → n * 1 < 4503599627370496 * d → HasValue (round binary64 s (n * 1 + 4503599627370496 * d) (d * 1)) s (4503599627370496 + closest n d) 1
lifted s n d D h =
    subst (λ (c : ℕ). HasValue (round binary64 s (n * 1 + 4503599627370496 * d) c) s (4503599627370496 + closest n d) 1) (sym (mul-one d))
    (subst (λ (z : ℕ). HasValue (round binary64 s (z + 4503599627370496 * d) d) s (4503599627370496 + closest n d) 1) (sym (mul-one n)) (raised s n d D (subst (λ (z : ℕ). z < 4503599627370496 * d) (mul-one n) h)))

abbrev plain : Float
plain = fin false 0 (pos 0)

pub minus-test : (x : Float) → le x (neg p52) ≡ false → lt x plain ≡ true → add binary64 (sub binary64 x p52) p52 ≡ whole_of x
unfolding le neg lt sub whole_of
minus-test nan u h = absurd (false≢true h)
minus-test (inf true) u h = absurd (true≢false u)
minus-test (inf false) u h = absurd (false≢true h)
minus-test (fin false m e) u h = absurd (no (m * up e * 1) (down e) (ltb→lt (m * up e * 1) (0 * down e) (subst T (sym h) tt)))
  where
    no : (a d : ℕ) → a < 0 * d → ⊥
    no a d h = omega arith
minus-test (fin true m e) u h =
    let a = 4503599627370496 * down e in
    let b = m * up e * 1 in
    up-minus (round binary64 true (b + a) (down e * 1)) (closest (m * up e) (down e)) (lifted true (m * up e) (down e) (down_pos e) (denies a b b a (λ (q : b ≡ a). q) u))

-- -0 + 2 ^ 52
minus-zero : (z d : ℕ) (y : Float) → z ≡ 0 → 0 < d → cond (ltb z (4503599627370496 * d)) (round binary64 false (4503599627370496 * d - z) (d * 1)) y ≡ round binary64 false (0 * 1 + 4503599627370496 * d) (d * 1)
minus-zero z d y e D =
    ap (λ (t : Bool). cond t (round binary64 false (4503599627370496 * d - z) (d * 1)) y) (is_true (ltb z (4503599627370496 * d)) (lt→ltb z (4503599627370496 * d) (less z d e D)))
    ∙ ap (λ (a : ℕ). round binary64 false a (d * 1)) (left z (4503599627370496 * d) e)
  where
    less : (z d : ℕ) → z ≡ 0 → 0 < d → z < 4503599627370496 * d
    less z d e D = omega arith

    left : (z p : ℕ) → z ≡ 0 → p - z ≡ 0 * 1 + p
    left z p e = omega arith

pub plus-test : (x : Float) → le p52 x ≡ false → lt x plain ≡ false → sub binary64 (add binary64 x p52) p52 ≡ whole_of x
unfolding le lt add whole_of
plus-test nan u h = unfold sub in refl
plus-test (inf true) u h = absurd (true≢false h)
plus-test (inf false) u h = absurd (true≢false u)
plus-test (fin true zero e) u h =
    let k : closest 0 (down e) ≡ 0 = closest_same 0 (down e) 0 1 (down_pos e) (zero-lt-suc 0) (none (down e)) in
    ap (λ (y : Float). sub binary64 y p52) (minus-zero (0 * up e * 1) (down e) (round binary64 (ltb (4503599627370496 * down e) (0 * up e * 1)) (0 * up e * 1 - 4503599627370496 * down e) (down e * 1)) (flat (up e)) (down_pos e))
    ∙ down-plus (round binary64 false (0 * 1 + 4503599627370496 * down e) (down e * 1)) (closest 0 (down e)) (lifted false 0 (down e) (down_pos e) (under (down e) (down_pos e)))
    ∙ ap (λ (z : ℕ). of_int binary64 (pos z)) k
    ∙ sym (ap (λ (z : ℕ). of_int binary64 (neg_ℤ (pos z))) (closest-zero e))
  where
    none : (d : ℕ) → 0 * 1 ≡ 0 * d
    none d = omega arith

    flat : (u : ℕ) → 0 * u * 1 ≡ 0
    flat u = omega arith

    under : (d : ℕ) → 0 < d → 0 * 1 < 4503599627370496 * d
    under d D = omega arith
plus-test (fin true (suc m) e) u h = absurd (true≢false (sym (is_true (ltb 0 (suc m * up e * 1 + 0 * down e)) (lt→ltb 0 (suc m * up e * 1 + 0 * down e) (some (suc m * up e) (down e) (mul-pos (zero-lt-suc m) (up_pos e))))) ∙ h))
  where
    some : (a d : ℕ) → 0 < a → 0 < a * 1 + 0 * d
    some a d h = omega arith
plus-test (fin false m e) u h =
    let a = 4503599627370496 * down e in
    let b = m * up e * 1 in
    down-plus (round binary64 false (b + a) (down e * 1)) (closest (m * up e) (down e)) (lifted false (m * up e) (down e) (down_pos e) (denies a b a b (λ (q : b ≡ a). sym q) u))
