-- What `<=` on two sizes says and denies: the sizes a and b are tested for order, and for being the same as x and y, which may be them the other way round.
use Rattle.std.specs.Prelude.{◌≡◌, refl, ℕ, ◌≤◌, ◌<◌, Bool, true, false, not, ◌&&◌, ◌||◌, T, ltb, eqb}
use Rattle.std.proofs.Common.{sym, ap, ◌∙◌, subst, le_of_eq, le_of_lt, true≢false, ltb→lt, nltb→le, eqb→eq}
use Rattle.std.proofs.lemmas.Bool.{false≢true}
use Rattle.std.proofs.Math.Arith.{lt_of_le-ne}
use Rattle.std.specs.Float.Ieee.Bits.{is_true}
use Rattle.std.specs.Float.Ieee.Fits.{eq→eqb}

pub says : (a b x y : ℕ) → (x ≡ y → a ≡ b) → (ltb a b || (eqb x y && true)) ≡ true → a ≤ b
says a b x y k h = go (ltb a b) (ltb→lt a b) (eqb x y) (eqb→eq x y) h
  where
    go : (p : Bool) → (T p → a < b) → (q : Bool) → (T q → x ≡ y) → (p || (q && true)) ≡ true → a ≤ b
    go true l q e h = le_of_lt (l tt)
    go false l true e h = le_of_eq (k (e tt))
    go false l false e h = absurd (false≢true h)

or-false : (p q : Bool) → (p || q) ≡ false → (p ≡ false) × (q ≡ false)
or-false true q h = absurd (true≢false h)
or-false false q h = (refl, h)

pub denies : (a b x y : ℕ) → (b ≡ a → x ≡ y) → (ltb a b || (eqb x y && true)) ≡ false → b < a
denies a b x y k h =
    let p = or-false (ltb a b) (eqb x y && true) h in
    lt_of_le-ne (nltb→le a b (subst (λ (t : Bool). T (not t)) (sym p.0) tt)) (λ (e : b ≡ a). true≢false (sym (ap (λ (t : Bool). t && true) (is_true (eqb x y) (eq→eqb (k e)))) ∙ p.1))
