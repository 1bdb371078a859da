-- When an answer agrees with the stored one: the number is the same, and so is every output, byte for byte. The stored list has one pattern for every NaN, and so
-- has what the proved code writes: a NaN matches a NaN.
use Rattle.std.specs.Prelude.{◌≡◌, refl, Bool, true, false, cond, List, [], ◌∷◌, ◌++◌, ℕ, zero, suc, ◌+◌, ◌≤◌, eqb, length, take, replicate, bytes_eq}
use Rattle.std.proofs.Common.{sym, ap, ◌∙◌, arith, eq-eqb, ne_eqb, eqb-true}
use Rattle.std.proofs.lemmas.Bool.{false≢true}
use Rattle.std.proofs.lemmas.List.{length-replicate}
use Rattle.std.proofs.lemmas.Slice.Eq.{bytes_eq-Decides}
use Rattle.lists.specs.Splice.{splice}
use Rattle.calls.specs.Arms.{if_taken}
use Rattle.lent_bytes.specs.SheetLists.{same-two, same-three}
use Rattle.stored_answers.specs.Stored.{number_at, list_of}

unfoldable pub same_bytes : List ℕ → List ℕ → Bool
same_bytes [] [] = true
same_bytes [] (y ∷ ys) = false
same_bytes (x ∷ xs) [] = false
same_bytes (x ∷ xs) (y ∷ ys) = cond (eqb x y) (same_bytes xs ys) false

-- an output before its call: as long as the stored one, each byte 165
unfoldable pub fill : ℕ → List ℕ
fill n = replicate n 165

abbrev pub filled : List ℕ → List ℕ
filled stored = fill (length stored)

-- and after a call of number r that writes these bytes where it is accepted
abbrev pub written : ℕ → List ℕ → List ℕ → List ℕ
written r stored bytes = if_taken r (filled stored) (splice (filled stored) 0 bytes)

-- outputs are those stored from list k of the record on
unfoldable pub outputs_agree : List ℕ → ℕ → ℕ → List (List ℕ) → Bool
outputs_agree s at k [] = true
outputs_agree s at k (o ∷ os) = cond (same_bytes o (list_of s at k)) (outputs_agree s at (k + 1) os) false

-- and the number r is the record's
unfoldable pub answer_agrees : List ℕ → ℕ → ℕ → ℕ → List (List ℕ) → Bool
answer_agrees s at r k os = cond (eqb r (number_at s (at + 2))) (outputs_agree s at k os) false

-- ---- laws
fill-length : (n : ℕ) → length (fill n) ≡ n
unfolding fill
fill-length n = length-replicate n 165

pub same-front : {A : Type 0} (x : A) (n m : ℕ) → n ≤ m → take n (replicate m x) ≡ replicate n x
same-front x zero m h = refl
same-front x (suc n) zero h = absurd (omega arith)
same-front {A} x (suc n) (suc m) h = ap (λ (l : List A). x ∷ l) (same-front x n m (omega arith))

pub front-filled : {a : List ℕ} (stored : List ℕ) (n m : ℕ) → a ≡ fill m → n ≡ length stored → n ≤ m → take n a ≡ filled stored
unfolding fill
front-filled stored n m e l h = ap (take n) e ∙ same-front 165 n m h ∙ ap fill l

pub filled-length : {p : List ℕ} (stored : List ℕ) → p ≡ filled stored → length p ≡ length stored
filled-length stored e = ap length e ∙ fill-length (length stored)

pub left-written : {r r' : ℕ} {p b b' : List ℕ} (stored : List ℕ) → r ≡ r' → p ≡ filled stored → b ≡ b' → if_taken r p (splice p 0 b) ≡ written r' stored b'
left-written stored e f g = same-three (λ r p b. if_taken r p (splice p 0 b)) e f g

pub same_answer : (s : List ℕ) (at k : ℕ) {r r' : ℕ} {os os' : List (List ℕ)} → r ≡ r' → os ≡ os' → answer_agrees s at r k os ≡ answer_agrees s at r' k os'
same_answer s at k e f = same-two (λ r os. answer_agrees s at r k os) e f

pub same_refl : (xs : List ℕ) → same_bytes xs xs ≡ true
unfolding same_bytes
same_refl [] = refl
same_refl (x ∷ xs) = rw (eq-eqb x x refl) (same_refl xs)

both : (t : Bool) (u : Bool) → cond t u false ≡ true → (t ≡ true) × (u ≡ true)
both true u e = (refl, e)
both false u e = absurd (false≢true e)

pub same_true : (xs ys : List ℕ) → same_bytes xs ys ≡ true → xs ≡ ys
unfolding same_bytes
same_true [] [] e = refl
same_true [] (y ∷ ys) e = absurd (false≢true e)
same_true (x ∷ xs) [] e = absurd (false≢true e)
same_true (x ∷ xs) (y ∷ ys) e =
    let b = both (eqb x y) (same_bytes xs ys) e in
    let h : x ≡ y = eqb-true x y b.0 in
    let t : xs ≡ ys = same_true xs ys b.1 in
    cc

-- lists that differ
not_same : (t : Bool) → (t ≡ true → ⊥) → t ≡ false
not_same true h = absurd (h refl)
not_same false h = refl

agree_if : (t u : Bool) → (t ≡ true → u ≡ true) → (u ≡ true → t ≡ true) → t ≡ u
agree_if true u f g = sym (f refl)
agree_if false true f g = g refl
agree_if false false f g = refl

pub same_false : (xs ys : List ℕ) → (xs ≡ ys → ⊥) → same_bytes xs ys ≡ false
same_false xs ys h = not_same (same_bytes xs ys) (λ e. h (same_true xs ys e))

-- so they are the test that `==` makes of two lists
pub same-eq : (xs ys : List ℕ) → bytes_eq xs ys ≡ same_bytes xs ys
same-eq xs ys = agree_if (bytes_eq xs ys) (same_bytes xs ys) (λ e. rw ((bytes_eq-Decides xs ys).0 e) (same_refl ys)) (λ e. (bytes_eq-Decides xs ys).1 (same_true xs ys e))

-- one output more
itself : (t : Bool) → cond t true false ≡ t
itself true = refl
itself false = refl

inner : (t u v : Bool) → cond t (cond u v false) false ≡ cond (cond t u false) v false
inner true u v = refl
inner false u v = refl

outputs-more : (s : List ℕ) (at k : ℕ) (os : List (List ℕ)) (o : List ℕ)
    → outputs_agree s at k (os ++ (o ∷ [])) ≡ cond (outputs_agree s at k os) (same_bytes o (list_of s at (k + length os))) false
unfolding outputs_agree
outputs-more s at k [] o =
    let z : k + 0 ≡ k = omega arith in
    rw z (itself (same_bytes o (list_of s at k)))
outputs-more s at k (x ∷ os) o =
    let z : k + 1 + length os ≡ k + suc (length os) = omega arith in
    ap (λ (b : Bool). cond (same_bytes x (list_of s at k)) b false) (outputs-more s at (k + 1) os o)
    ∙ inner (same_bytes x (list_of s at k)) (outputs_agree s at (k + 1) os) (same_bytes o (list_of s at (k + 1 + length os)))
    ∙ ap (λ (n : ℕ). cond (cond (same_bytes x (list_of s at k)) (outputs_agree s at (k + 1) os) false) (same_bytes o (list_of s at n)) false) z

pub agrees-more : (s : List ℕ) (at r k : ℕ) (os : List (List ℕ)) (o : List ℕ)
    → answer_agrees s at r k (os ++ (o ∷ [])) ≡ cond (answer_agrees s at r k os) (same_bytes o (list_of s at (k + length os))) false
unfolding answer_agrees
agrees-more s at r k os o =
    ap (λ (b : Bool). cond (eqb r (number_at s (at + 2))) b false) (outputs-more s at k os o)
    ∙ inner (eqb r (number_at s (at + 2))) (outputs_agree s at k os) (same_bytes o (list_of s at (k + length os)))

module _ (s : List ℕ) (at r k : ℕ) (os : List (List ℕ)) (o : List ℕ) where
  pub agrees-not : answer_agrees s at r k os ≡ false → answer_agrees s at r k (os ++ (o ∷ [])) ≡ false
  agrees-not e = agrees-more s at r k os o ∙ rw e

  pub agrees-next : answer_agrees s at r k os ≡ true → answer_agrees s at r k (os ++ (o ∷ [])) ≡ same_bytes o (list_of s at (k + length os))
  agrees-next e = agrees-more s at r k os o ∙ rw e

pub agrees-none : (s : List ℕ) (at r k : ℕ) → answer_agrees s at r k [] ≡ eqb r (number_at s (at + 2))
unfolding answer_agrees outputs_agree
agrees-none s at r k = itself (eqb r (number_at s (at + 2)))

-- an answer of number r, compared output by output: b is what is known of the outputs os, and o is the next one
pub agrees-begin : (s : List ℕ) (at k : ℕ) {b : Bool} {r r' : ℕ} → b ≡ answer_agrees s at r 0 [] → r ≡ r' → b ≡ answer_agrees s at r' k []
agrees-begin s at k {r = r} {r' = r'} e q = e ∙ agrees-none s at r 0 ∙ sym (agrees-none s at r k) ∙ ap (λ (n : ℕ). answer_agrees s at n k []) q

pub agrees_on : (s : List ℕ) (at r k : ℕ) (os : List (List ℕ)) {b t : Bool} {o o' : List ℕ}
    → b ≡ answer_agrees s at r k os → o ≡ o' → t ≡ cond b (same_bytes o (list_of s at (k + length os))) false → t ≡ answer_agrees s at r k (os ++ (o' ∷ []))
agrees_on s at r k os {o' = o'} e q h =
    h ∙ same-two (λ b o. cond b (same_bytes o (list_of s at (k + length os))) false) e q ∙ sym (agrees-more s at r k os o')

-- the outputs one after the other: where the next one differs, all do; where it is the same, those behind it decide
module _ (s : List ℕ) (at k : ℕ) (o : List ℕ) (os : List (List ℕ)) where
  pub outputs-not : same_bytes o (list_of s at k) ≡ false → outputs_agree s at k (o ∷ os) ≡ false
  unfolding outputs_agree
  outputs-not e = rw e

  pub outputs-next : same_bytes o (list_of s at k) ≡ true → outputs_agree s at k (o ∷ os) ≡ outputs_agree s at (k + 1) os
  unfolding outputs_agree
  outputs-next e = rw e

pub outputs-none : (s : List ℕ) (at k : ℕ) → outputs_agree s at k [] ≡ true
unfolding outputs_agree
outputs-none s at k = refl

pub answer-not : (s : List ℕ) (at r k : ℕ) (os : List (List ℕ)) → (r ≡ number_at s (at + 2) → ⊥) → answer_agrees s at r k os ≡ false
unfolding answer_agrees
answer-not s at r k os h = rw (ne_eqb r (number_at s (at + 2)) h)

pub answer-number : (s : List ℕ) (at r k : ℕ) (os : List (List ℕ)) → r ≡ number_at s (at + 2) → answer_agrees s at r k os ≡ outputs_agree s at k os
unfolding answer_agrees
answer-number s at r k os e = rw (eq-eqb r (number_at s (at + 2)) e)
