-- The larger of x and -x, by which the pivots' search compares, and that it orders two floats as their absolute values do.
use Rattle.std.specs.Prelude.{◌≡◌, Bool, cond, ℤ, ltb, Float}
use Rattle.std.proofs.Math.Path.{refl}
use Rattle.std.proofs.Common.{sym, ◌∙◌, mul-pos, zero-lt-suc, arith, lt-ltb, le-ltb}
use Rattle.std.proofs.Math.Bool.{true, false}
use Prim.Native.Nat.{ℕ, zero, suc, ◌+◌, ◌*◌, ◌<◌}
use Rattle.std.specs.Float.Ieee.{nan, up, down, neg, lt}
use Rattle.std.specs.Float.{inf, fin}
use Rattle.std.specs.Float.Ieee.Fits.{up_pos, down_pos}
use Rattle.standins.specs.Num.{abs_of}

-- the absolute value of x, but that -0 stays as it is
unfoldable pub size_of : Float → Float
size_of x = cond (lt x (neg x)) (neg x) x

-- ---- no comparison sees the sign of a zero
none : (u d : ℕ) → 0 * u * d ≡ 0
none u d = omega arith

sum_left : (a b : ℕ) → a ≡ 0 → ltb 0 (a + b) ≡ ltb a b
sum_left a b z = let s : a + b ≡ b = omega arith in rw (s, z)

sum-right : (a b : ℕ) → b ≡ 0 → ltb 0 (a + b) ≡ ltb b a
sum-right a b z = let s : a + b ≡ a = omega arith in rw (s, z)

never : (a b : ℕ) → b ≡ 0 → ltb a b ≡ false
never a b z = le-ltb a b (omega arith)

zero-below : (e : ℤ) (y : Float) → lt (fin true 0 e) y ≡ lt (fin false 0 e) y
unfolding lt
zero-below e nan = refl
zero-below e (inf t) = refl
zero-below e (fin false n d) = sum_left (0 * up e * down d) (n * up d * down e) (none (up e) (down d))
zero-below e (fin true n d) = never (n * up d * down e) (0 * up e * down d) (none (up e) (down d))

below-zero : (x : Float) (e : ℤ) → lt x (fin true 0 e) ≡ lt x (fin false 0 e)
unfolding lt
below-zero nan e = refl
below-zero (inf s) e = refl
below-zero (fin false m d) e = sym (never (m * up d * down e) (0 * up e * down d) (none (up e) (down d)))
below-zero (fin true m d) e = sym (sum-right (m * up d * down e) (0 * up e * down d) (none (up e) (down d)))

-- ---- what orders zeros alike orders sizes as absolute values
some : (m : ℕ) (e : ℤ) → ltb 0 (suc m * up e * down e + suc m * up e * down e) ≡ true
some m e =
    let h : 0 < suc m * up e * down e = mul-pos (mul-pos (zero-lt-suc m) (up_pos e)) (down_pos e) in
    lt-ltb 0 (suc m * up e * down e + suc m * up e * down e) (omega arith)

module _ (f : Float → Bool) (zeros : (e : ℤ) → f (fin true 0 e) ≡ f (fin false 0 e)) where
  sees : (x : Float) → f (size_of x) ≡ f (abs_of x)
  unfolding size_of lt neg abs_of
  sees nan = refl
  sees (inf true) = refl
  sees (inf false) = refl
  sees (fin false m e) = refl
  sees (fin true (suc m) e) = rw (some m e)
  sees (fin true zero e) = pick (ltb 0 (0 * up e * down e + 0 * up e * down e))
    where
      pick : (t : Bool) → f (cond t (fin false 0 e) (fin true 0 e)) ≡ f (fin false 0 e)
      pick true = refl
      pick false = zeros e

pub size_below : (a b : Float) → lt (size_of a) (size_of b) ≡ lt (abs_of a) (abs_of b)
size_below a b =
    sees (λ x. lt x (size_of b)) (λ e. zero-below e (size_of b)) a
    ∙ sees (lt (abs_of a)) (below-zero (abs_of a)) b
