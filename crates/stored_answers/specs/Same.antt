-- Functions of equal arguments have equal values.
use Rattle.std.specs.Prelude.{◌≡◌}
use Rattle.std.proofs.Common.{◌∙◌}
use Rattle.lent_bytes.specs.SheetLists.{same-two, same-three}

module _ {A B C D Z : Type 0} where
  pub same-four : (f : A → B → C → D → Z) {a a' : A} {b b' : B} {c c' : C} {d d' : D} → a ≡ a' → b ≡ b' → c ≡ c' → d ≡ d' → f a b c d ≡ f a' b' c' d'
  same-four f {a' = a'} {b' = b'} {c = c} {d = d} p q r t = same-two (λ a b. f a b c d) p q ∙ same-two (f a' b') r t

module _ {A B C D E Z : Type 0} where
  pub same-five : (f : A → B → C → D → E → Z) {a a' : A} {b b' : B} {c c' : C} {d d' : D} {e e' : E} → a ≡ a' → b ≡ b' → c ≡ c' → d ≡ d' → e ≡ e' → f a b c d e ≡ f a' b' c' d' e'
  same-five f {a' = a'} {b' = b'} {c = c} {d = d} {e = e} p q r t u = same-two (λ a b. f a b c d e) p q ∙ same-three (f a' b') r t u
