-- The paper's number of each refusal, and the number of an answer: 0 where the call was accepted.
use Rattle.std.specs.Prelude.{◌≡◌, refl, cond, ℕ, ◌≤◌, eqb, Result, Ok, Err, IsErr, IsErrAnd, ⊤}
use Rattle.std.proofs.Common.{sym, ap, ◌∙◌, arith, true≢false}
use Rattle.std.proofs.lemmas.Bool.Decides.{nat_tests}
use Rattle.refusals.specs.declared.refusal.Refusal.{Refusal}
use Rattle.refusals.specs.declared.refusal.Refusal.TheVariants.{Sizes, Lengths, Codes, Joints, Limits, Floats, Block, Goals, Room, Weights, Tool, NoArms, NoGoals, NoStart}
use Rattle.refusals.specs.Lowest.{first_of, first-zero, first_some}

-- the paper's number
abbrev pub paper_number : Refusal → ℕ
paper_number Sizes = 1
paper_number Lengths = 2
paper_number Codes = 3
paper_number Joints = 4
paper_number Limits = 5
paper_number Floats = 6
paper_number Block = 7
paper_number Goals = 8
paper_number Room = 9
paper_number Weights = 10
paper_number Tool = 11
paper_number NoArms = 20
paper_number NoGoals = 21
paper_number NoStart = 22

-- the number of an answer, which the caller gets
abbrev pub number_of : {T : Type 0} → Result T Refusal → ℕ
number_of (Ok v) = 0
number_of (Err e) = paper_number e

-- the refusal of a number; of a number that is no refusal's, the last
unfoldable pub refusal_of : ℕ → Refusal
refusal_of n =
    cond (eqb n 1) Sizes (
    cond (eqb n 2) Lengths (
    cond (eqb n 3) Codes (
    cond (eqb n 4) Joints (
    cond (eqb n 5) Limits (
    cond (eqb n 6) Floats (
    cond (eqb n 7) Block (
    cond (eqb n 8) Goals (
    cond (eqb n 9) Room (
    cond (eqb n 10) Weights (
    cond (eqb n 11) Tool (
    cond (eqb n 20) NoArms (
    cond (eqb n 21) NoGoals (
    NoStart)))))))))))))

-- ---- laws: each refusal has a number of its own, and none has 0
pub refusal-of-number : (e : Refusal) → refusal_of (paper_number e) ≡ e
unfolding refusal_of
refusal-of-number Sizes = refl
refusal-of-number e = refl

pub paper_number-injective : (d e : Refusal) → paper_number d ≡ paper_number e → d ≡ e
paper_number-injective d e same = sym (refusal-of-number d) ∙ ap refusal_of same ∙ refusal-of-number e

pub paper_number-some : (e : Refusal) → 1 ≤ paper_number e
paper_number-some Sizes = omega arith
paper_number-some e = omega arith

-- and every number from 1 to 11 is a refusal's
pub number-of-refusal : (n : ℕ) → 1 ≤ n → n ≤ 11 → paper_number (refusal_of n) ≡ n
unfolding refusal_of
number-of-refusal n some few = grind (arith, nat_tests)

-- and so are 20 to 22
pub number-of-missing : (n : ℕ) → 20 ≤ n → n ≤ 22 → paper_number (refusal_of n) ≡ n
unfolding refusal_of
number-of-missing n some few = grind (arith, nat_tests)

-- ---- laws: the number says which answer it is
pub refused : {T : Type 0} (r : Result T Refusal) (e : Refusal) → number_of r ≡ paper_number e → r ≡ Err e
refused (Ok v) e same = absurd (omega (arith, paper_number-some e, same))
refused (Err d) e same = ap Err (paper_number-injective d e same)

pub accepted : (r : Result ⊤ Refusal) → number_of r ≡ 0 → r ≡ Ok tt
accepted (Ok v) same = refl
accepted (Err d) same = absurd (omega (arith, paper_number-some d, same))

pub same-answer : (r s : Result ⊤ Refusal) → number_of r ≡ number_of s → r ≡ s
same-answer r (Ok v) same = accepted r same
same-answer r (Err d) same = refused r d same

-- where it is not 0 the answer is the refusal of that number
pub refusal-there : {T : Type 0} (r : Result T Refusal) (n : ℕ) → number_of r ≡ n → (n ≡ 0 → ⊥) → r ≡ Err (refusal_of n)
refusal-there (Ok v) n same some = absurd (some (sym same))
refusal-there (Err e) n same some = ap Err (sym (refusal-of-number e) ∙ ap refusal_of same)

-- no refusal has 0
pub refused-some : {T : Type 0} (r : Result T Refusal) → IsErr r → number_of r ≡ 0 → ⊥
refused-some (Ok v) h same = absurd (true≢false (sym h))
refused-some (Err d) h same = omega (arith, paper_number-some d, same)

-- ---- laws: `?`
-- the answer with which a `?` leaves has the number of the refusal that it met
pub passed-on : {T : Type 0} (r : Result T Refusal) (e : Refusal) → IsErrAnd r (λ d. d ≡ e) → number_of r ≡ paper_number e
passed-on (Ok v) e h = absurd h
passed-on (Err d) e h = ap paper_number h

-- the first of two calls refused
pub first-refused : {T : Type 0} (r : Result T Refusal) (e : Refusal) (a b : ℕ) → IsErrAnd r (λ d. d ≡ e) → paper_number e ≡ a → number_of r ≡ first_of a b
first-refused r e a b h same = passed-on r e h ∙ same ∙ sym (first_some a b (λ z. omega (arith, paper_number-some e, same, z)))

-- the first of two calls accepted
pub first-accepted : (a b n : ℕ) → 0 ≡ a → n ≡ b → n ≡ first_of a b
first-accepted a b n none same = same ∙ sym (first-zero a b (sym none))
