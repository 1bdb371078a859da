-- The steps of the sequences, one behind the other on one state; how many of a call there are, how many differ, and what is wrong with a list.
use Rattle.std.specs.Prelude.{Bool, List, ℕ}
use Rattle.state_calls.specs.declared.state.State.{State}
use Rattle.state_calls.specs.State.{empty_state}
use Rattle.stored_answers.specs.Stored.{number_at}
use Rattle.stored_answers.specs.Records.{end_by, record_by, state_by, cases_by, differ_by, damage_by}
use Rattle.sequences.specs.Table.{last_call, lists_of}
use Rattle.sequences.specs.Changes.{outcome_at}
use Rattle.sequences.specs.Asked.{step_agrees}

-- where the record at a place ends, and where record i begins
abbrev pub end_of : List ℕ → ℕ → ℕ
end_of s at = end_by lists_of s at

abbrev pub record_at : List ℕ → ℕ → ℕ
record_at s i = record_by lists_of s i

-- the state after the step at a place
abbrev pub after_of : State → List ℕ → ℕ → State
after_of st s at = (outcome_at (number_at s at) st s at).state

-- the state before step i
abbrev pub state_at : List ℕ → ℕ → State
state_at s i = state_by after_of empty_state lists_of s i

-- step i agrees with what its call answers on that state
abbrev pub agrees_at : List ℕ → ℕ → Bool
agrees_at s i = step_agrees (state_at s i) s (record_at s i)

-- how many of the list's steps are of call c, and how many of those differ
abbrev pub cases_of : List ℕ → ℕ → ℕ
cases_of s c = cases_by lists_of s c

abbrev pub differ_of : List ℕ → ℕ → ℕ
differ_of s c = differ_by lists_of (agrees_at s) s c

-- what is wrong with a list
abbrev pub damage_of : List ℕ → ℕ
damage_of s = damage_by lists_of last_call s
