-- The size of a float, by the tests x < 0 and x == 0.
use mathlib.Core.Path.{◌≡◌, refl, sym, ap, ◌∙◌, subst}
use Prim.Native.Nat.{ℕ, zero, suc, ◌+◌, ◌*◌, ◌^◌, ◌<◌}
use native.Mathlib.Nat.{mul-pos, zero-lt-suc, pow-suc}
use native.Mathlib.Omega.{arith}
use mathlib.Core.Bool.{true, false, ◌&&◌, ◌||◌, beq, true≢false, false≢true}
use lib.IntN.{ℤ, pos, negsuc}
use lib.Dec.{T, ltb, eqb, eqb→eq, ltb→lt, lt→ltb}
use lib.Pow.{pow_pos}
use lib.Ieee.{Float, nan, inf, fin, binary64, up, down, of_bits, neg, eq, lt, fits}
use lib.Ieee.Bits.{is_true}
use lib.Ieee.Fits.{up_pos, and_l}
use Rattle.standins.specs.Num.{nought, abs_of}

abbrev plain : Float
plain = fin false 0 (pos 0)

is_plain : nought ≡ plain
unfolding of_bits
is_plain = refl

-- the numbers that the tests compare
none : (d : ℕ) → 0 * d ≡ 0
none d = omega arith

none-one : (u : ℕ) → 0 * u * 1 ≡ 0
none-one u = omega arith

some : (m : ℕ) (e : ℤ) → 0 < suc m * up e * 1
some m e = mul-pos (mul-pos (zero-lt-suc m) (up_pos e)) (zero-lt-suc 0)

not-under : (a b : ℕ) → b ≡ 0 → a < b → ⊥
not-under a b z h = omega arith

not-level : (a b : ℕ) → 0 < a → b ≡ 0 → a ≡ b → ⊥
not-level a b p z e = omega arith

over : (a b : ℕ) → 0 < a → 0 < a + b
over a b h = omega arith

negative : (x : Float) → lt x plain ≡ true → neg x ≡ abs_of x
unfolding lt neg abs_of
negative nan h = absurd (false≢true h)
negative (inf true) h = refl
negative (inf false) h = absurd (false≢true h)
negative (fin true m e) h = refl
negative (fin false m e) h = absurd (not-under (m * up e * 1) (0 * down e) (none (down e)) (ltb→lt (m * up e * 1) (0 * down e) (subst T (sym h) tt)))

pub size-negative : (x : Float) → lt x nought ≡ true → neg x ≡ abs_of x
size-negative x h = negative x (ap (lt x) (sym is_plain) ∙ h)

-- a zero is written in one way
one-zero : (e : ℤ) → T (eqb (up e * down e) 1) → e ≡ pos 0
one-zero (pos zero) t = refl
one-zero (pos (suc k)) t = absurd (twice (2 ^ k) (pow_pos k) (rw pow-suc at (eqb→eq (2 ^ suc k * 1) 1 t)))
  where
    twice : (n : ℕ) → 0 < n → n * 2 * 1 ≡ 1 → ⊥
    twice n h e = omega arith
one-zero (negsuc k) t = absurd (twice (2 ^ k) (pow_pos k) (rw pow-suc at (eqb→eq (1 * 2 ^ suc k) 1 t)))
  where
    twice : (n : ℕ) → 0 < n → 1 * (n * 2) ≡ 1 → ⊥
    twice n h e = omega arith

level-zero : (x : Float) → T (fits binary64 x) → eq x plain ≡ true → plain ≡ abs_of x
unfolding eq fits abs_of
level-zero nan f h = absurd (false≢true h)
level-zero (inf s) f h = absurd (false≢true h)
level-zero (fin s zero e) f h = ap (λ (z : ℤ). fin false 0 z) (sym (one-zero e f))
level-zero (fin s (suc m) e) f h =
    let a = suc m * up e * 1 in
    let b = 0 * down e in
    absurd (not-level a b (some m e) (none (down e)) (eqb→eq a b (and_l (eqb a b) (beq s false || eqb a 0) (subst T (sym h) tt))))

pub size-zero : (x : Float) → T (fits binary64 x) → eq x nought ≡ true → nought ≡ abs_of x
size-zero x f h = is_plain ∙ level-zero x f (ap (eq x) (sym is_plain) ∙ h)

positive : (x : Float) → lt x plain ≡ false → eq x plain ≡ false → x ≡ abs_of x
unfolding lt eq abs_of
positive nan l h = refl
positive (inf true) l h = absurd (true≢false l)
positive (inf false) l h = refl
positive (fin false m e) l h = refl
positive (fin true zero e) l h = absurd (same (0 * up e * 1) (0 * down e) (none-one (up e)) (none (down e)) h)
  where
    same : (a b : ℕ) → a ≡ 0 → b ≡ 0 → (eqb a b && (false || eqb a 0)) ≡ false → ⊥
    same a b p q h = true≢false (subst (λ (y : ℕ). (eqb 0 y && (false || eqb 0 0)) ≡ false) q (subst (λ (y : ℕ). (eqb y b && (false || eqb y 0)) ≡ false) p h))
positive (fin true (suc m) e) l h =
    absurd (true≢false (sym (is_true (ltb 0 (suc m * up e * 1 + 0 * down e)) (lt→ltb 0 (suc m * up e * 1 + 0 * down e) (over (suc m * up e * 1) (0 * down e) (some m e)))) ∙ l))

pub size-positive : (x : Float) → lt x nought ≡ false → eq x nought ≡ false → x ≡ abs_of x
size-positive x l h = positive x (ap (lt x) (sym is_plain) ∙ l) (ap (eq x) (sym is_plain) ∙ h)
