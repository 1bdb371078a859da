-- Loading: the sheet is stored, each list with zeros behind it; goals, history and tools are cleared, weights are kept. A refusal keeps the old state.
use Rattle.std.specs.Prelude.{◌≡◌, refl, Bool, true, false, List, ℕ, eqb, Float, replicate, Result, Ok, Err}
use Rattle.lists.specs.Splice.{splice}
use Rattle.refusals.specs.declared.refusal.Refusal.{Refusal}
use Rattle.refusals.specs.Number.{paper_number}
use Rattle.refusals.specs.Refusal.{load_refusal}
use Rattle.state_calls.specs.declared.state.Arms.{Arms}
use Rattle.state_calls.specs.declared.state.State.{State}
use Rattle.state_calls.specs.State.{zeros, empty_party}

-- a call's number, 0 where it was accepted, and the state after it
pub record Outcome : Type 0 where
  pub number : ℕ
  pub state : State

-- what an answer says: a refusal leaves the old state
abbrev pub answered : State → Result State Refusal → Outcome
answered old (Ok new) = record { number = 0; state = new }
answered old (Err e) = record { number = paper_number e; state = old }

unfoldable pub arms_of : List ℕ → List ℕ → List Float → List Float → Arms
arms_of sizes codes floats limits = record {
  sizes = splice (replicate 5 0) 0 sizes;
  codes = splice (replicate 64 0) 0 codes;
  floats = splice (zeros 448) 0 floats;
  limits = splice (zeros 32) 0 limits;
  tools = zeros 32;
}

-- the new state, or, where number is not 0, the old one
abbrev pub state_if : Bool → State → State → State
state_if true new old = new
state_if false new old = old

unfoldable pub outcome_of : ℕ → State → State → Outcome
outcome_of number old new = record { number = number; state = state_if (eqb number 0) new old }

unfoldable pub load_of : State → List ℕ → List ℕ → List Float → List Float → Outcome
load_of s sizes codes floats limits =
    outcome_of (load_refusal sizes codes floats limits) s (record { arms = arms_of sizes codes floats limits; weights = s.weights; party = empty_party })

-- ---- laws: what a change leaves alone is kept, refused or not
pub outcome-keeps : {A : Type 0} (part : State → A) (number : ℕ) (old new : State) → part new ≡ part old → part (outcome_of number old new).state ≡ part old
unfolding outcome_of
outcome-keeps {A} part number old new same = pick (eqb number 0)
  where
    pick : (t : Bool) → part (state_if t new old) ≡ part old
    pick true = same
    pick false = refl
