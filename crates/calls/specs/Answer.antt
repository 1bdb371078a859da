-- The answer of a call that gives one float: the value, and NaN for a refusal. Its number is `number_of`.
use Rattle.std.specs.Prelude.{◌≡◌, refl, Bool, true, false, cond, ℕ, zero, suc, ◌≤◌, eqb, Float, Result, Ok, Err}
use Rattle.std.specs.Float.{nan}
use Rattle.std.proofs.Common.{sym, ap, ◌∙◌, eq-eqb, ne_eqb, arith}
use Rattle.refusals.specs.declared.refusal.Refusal.{Refusal}
pub use Rattle.refusals.specs.Number.{number_of}
use Rattle.refusals.specs.Number.{paper_number, refusal_of, refusal-of-number, paper_number-some}

-- the value, NaN for a refusal
abbrev pub answer_value : Result Float Refusal → Float
answer_value (Ok v) = v
answer_value (Err e) = nan

-- v, where number is 0
unfoldable pub value_if : ℕ → Float → Float
value_if number v = cond (eqb number 0) v nan

abbrev pub answer_if : Bool → Result Float Refusal → Result Float Refusal → Result Float Refusal
answer_if true a b = a
answer_if false a b = b

-- the answer that a number and a value make: a refusal has a number that is not 0
unfoldable pub answer_of : ℕ → Float → Result Float Refusal
answer_of number v = answer_if (eqb number 0) (Ok v) (Err (refusal_of number))

-- ---- laws
pub value_taken : (n : ℕ) (v : Float) → n ≡ 0 → value_if n v ≡ v
unfolding value_if
value_taken n v e = rw (eq-eqb n 0 e)

pub value-refused : (n : ℕ) (v : Float) → (n ≡ 0 → ⊥) → value_if n v ≡ nan
unfolding value_if
value-refused n v h = rw (ne_eqb n 0 h)

pub answer-taken : (v : Float) → answer_of 0 v ≡ Ok v
unfolding answer_of
answer-taken v = refl

pub answer-refused : (n : ℕ) (v : Float) → (n ≡ 0 → ⊥) → answer_of n v ≡ Err (refusal_of n)
unfolding answer_of
answer-refused n v h = rw (ne_eqb n 0 h)

-- its number is the one that made it: of 0, and of every number that is a refusal's
pub answer-number : (n : ℕ) (v : Float) → (1 ≤ n → paper_number (refusal_of n) ≡ n) → number_of (answer_of n v) ≡ n
unfolding answer_of
answer-number zero v named = refl
answer-number (suc k) v named = rw (ne_eqb (suc k) 0 (λ z. omega arith)) (named (omega arith))

-- an answer is the one that its number and its value make: they say all of it
pub answer-is : (r : Result Float Refusal) → r ≡ answer_of (number_of r) (answer_value r)
answer-is (Ok v) = sym (answer-taken v)
answer-is (Err e) = sym (answer-refused (paper_number e) nan (λ z. omega (arith, paper_number-some e, z)) ∙ ap Err (refusal-of-number e))
