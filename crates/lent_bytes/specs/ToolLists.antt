-- The tools that a call is lent: four lists of bytes, by chain, each left out where it has no byte.
use Rattle.std.specs.Prelude.{◌≡◌, refl, Bool, true, false, List, ◌∷◌, ◌++◌, ℕ, ◌+◌, eqb, Float, length, replicate}
use Rattle.std.proofs.Common.{sym, ap, ◌∙◌, append-nil, arith, eq-eqb, ne_eqb, eqb-true, length-append, drop_of_length-le, take_all}
use Rattle.std.specs.Float.{nan}
use Rattle.lists.specs.Lent.{LentList, lent}
use Rattle.lists.specs.Splice.{splice, splice-splice}
use Rattle.standins.specs.Num.{nought, one}
use Rattle.lent_bytes.specs.Lent.{Front, floats_in}

abbrev pub list_if : Bool → List Float → List Float → List Float
list_if true a b = a
list_if false a b = b

-- a tool's floats; a list that is ragged, or of more than seven, has none
abbrev pub tool_floats_from : List ℕ → List Float
tool_floats_from b = floats_in 7 b

-- the seven of a list that is not left out: NaNs, which are in no range, where it has not seven
unfoldable pub seven_from : List ℕ → List Float
seven_from b = list_if (eqb (length (tool_floats_from b)) 7) (tool_floats_from b) (replicate 7 nan)

-- a chain's eight: 1 and those, or zeros where the list has no byte
unfoldable pub tool_from : List ℕ → List Float
tool_from b = list_if (eqb (length b) 0) (replicate 8 nought) (one ∷ seven_from b)

-- the tools of four chains
unfoldable pub tools_from : List ℕ → List ℕ → List ℕ → List ℕ → List Float
tools_from b₀ b₁ b₂ b₃ = ((tool_from b₀ ++ tool_from b₁) ++ tool_from b₂) ++ tool_from b₃

-- of lent lists
abbrev pub tool_floats_in : {X : Type 0} → LentList ℕ X → List Float
tool_floats_in tool = tool_floats_from (lent tool)

abbrev pub tools_in : {X Y Z W : Type 0} → LentList ℕ X → LentList ℕ Y → LentList ℕ Z → LentList ℕ W → List Float
tools_in tool0 tool1 tool2 tool3 = tools_from (lent tool0) (lent tool1) (lent tool2) (lent tool3)

-- ---- laws
pub seven-long : (b : List ℕ) → length (seven_from b) ≡ 7
unfolding seven_from
seven-long b = pick (eqb (length (tool_floats_from b)) 7) refl
  where
    pick : (t : Bool) → eqb (length (tool_floats_from b)) 7 ≡ t → length (list_if t (tool_floats_from b) (replicate 7 nan)) ≡ 7
    pick true e = eqb-true (length (tool_floats_from b)) 7 e
    pick false e = refl

pub eight-long : (b : List ℕ) → length (tool_from b) ≡ 8
unfolding tool_from
eight-long b = pick (eqb (length b) 0)
  where
    pick : (t : Bool) → length (list_if t (replicate 8 nought) (one ∷ seven_from b)) ≡ 8
    pick true = refl
    pick false = omega (arith, seven-long b)

pub tools-long : (b₀ b₁ b₂ b₃ : List ℕ) → length (tools_from b₀ b₁ b₂ b₃) ≡ 32
unfolding tools_from
tools-long b₀ b₁ b₂ b₃ =
    length-append ((tool_from b₀ ++ tool_from b₁) ++ tool_from b₂) (tool_from b₃)
    ∙ omega (arith, length-append (tool_from b₀ ++ tool_from b₁) (tool_from b₂), length-append (tool_from b₀) (tool_from b₁), eight-long b₀, eight-long b₁, eight-long b₂, eight-long b₃)

-- ---- as the decoder makes them
module _ (b : List ℕ) (t : List Float) (n : ℕ) (f : Front (tool_floats_from b) t n) where
  counted : length (tool_floats_from b) ≡ n
  counted = sym (f.sized ∙ ap length f.held)

  pub seven-read : length t ≡ 7 → n ≡ 7 → t ≡ seven_from b
  unfolding seven_from
  seven-read l e = rw (eq-eqb (length (tool_floats_from b)) 7 (counted ∙ e)) (sym (take_all n t (omega arith)) ∙ f.held)

  pub not-seven : (n ≡ 7 → ⊥) → replicate 7 nan ≡ seven_from b
  unfolding seven_from
  not-seven h = rw (ne_eqb (length (tool_floats_from b)) 7 (λ e. h (sym counted ∙ e)))

-- a list without a byte, and one with
pub eight-left-out : (b : List ℕ) → length b ≡ 0 → tool_from b ≡ replicate 8 nought
unfolding tool_from
eight-left-out b e = rw (eq-eqb (length b) 0 e)

pub eight-lent : (b : List ℕ) → (length b ≡ 0 → ⊥) → tool_from b ≡ one ∷ seven_from b
unfolding tool_from
eight-lent b h = rw (ne_eqb (length b) 0 h)

pub marked : (b : List ℕ) → (length b ≡ 0 → ⊥) → splice (replicate 8 one) 1 (seven_from b) ≡ tool_from b
unfolding splice
marked b h = rw (seven-long b) (ap (λ (l : List Float). one ∷ l) (append-nil (seven_from b))) ∙ sym (eight-lent b h)

-- four lists of eight, written one behind the other
joined : (z a b c d : List Float) → length z ≡ 32 → length a ≡ 8 → length b ≡ 8 → length c ≡ 8 → length d ≡ 8
    → splice (splice (splice (splice z 0 a) 8 b) 16 c) 24 d ≡ ((a ++ b) ++ c) ++ d
unfolding splice
joined z a b c d lz la lb lc ld =
    let two : length (a ++ b) ≡ 16 = length-append a b ∙ omega arith in
    let three : length ((a ++ b) ++ c) ≡ 24 = length-append (a ++ b) c ∙ omega arith in
    let four : length (((a ++ b) ++ c) ++ d) ≡ 32 = length-append ((a ++ b) ++ c) d ∙ omega arith in
    ap (λ (l : List Float). splice (splice l 16 c) 24 d) (splice-splice z 0 8 a b (omega arith) (omega arith))
    ∙ ap (λ (l : List Float). splice l 24 d) (splice-splice z 0 16 (a ++ b) c (omega arith) (omega arith))
    ∙ splice-splice z 0 24 ((a ++ b) ++ c) d (omega arith) (omega arith)
    ∙ ap (λ (l : List Float). (((a ++ b) ++ c) ++ d) ++ l) (drop_of_length-le z {i = 0 + length (((a ++ b) ++ c) ++ d)} (omega arith))
    ∙ append-nil (((a ++ b) ++ c) ++ d)

pub tools-made : (b₀ b₁ b₂ b₃ : List ℕ) (z t₀ t₁ t₂ t₃ a b c d : List Float) → length z ≡ 32
    → a ≡ tool_from b₀ → b ≡ tool_from b₁ → c ≡ tool_from b₂ → d ≡ tool_from b₃
    → t₀ ≡ splice z 0 a → t₁ ≡ splice t₀ 8 b → t₂ ≡ splice t₁ 16 c → t₃ ≡ splice t₂ 24 d → t₃ ≡ tools_from b₀ b₁ b₂ b₃
unfolding tools_from
tools-made b₀ b₁ b₂ b₃ z t₀ t₁ t₂ t₃ a b c d lz ea eb ec ed e₀ e₁ e₂ e₃ =
    let made : t₃ ≡ splice (splice (splice (splice z 0 (tool_from b₀)) 8 (tool_from b₁)) 16 (tool_from b₂)) 24 (tool_from b₃) = cc in
    made ∙ joined z (tool_from b₀) (tool_from b₁) (tool_from b₂) (tool_from b₃) lz (eight-long b₀) (eight-long b₁) (eight-long b₂) (eight-long b₃)
