-- What the calls that change the state answer on a record's lists: the number, and the state after them.
use Rattle.std.specs.Prelude.{Bool, true, false, List, ℕ, eqb}
use Rattle.lent_bytes.specs.Lent.{numbers_in, floats_in}
use Rattle.state_calls.specs.declared.state.State.{State}
use Rattle.state_calls.specs.State.{empty_state}
use Rattle.state_calls.specs.Load.{Outcome, load_of}
use Rattle.state_calls.specs.Party.{set_goals_of, reset_state_of, update_state_of}
use Rattle.state_calls.specs.Weights.{set_weights_of}
use Rattle.state_calls.specs.Tools.{set_tool_of}
use Rattle.stored_answers.specs.Stored.{number_at, list_of}
use Rattle.sequences.specs.Table.{sizes_list, codes_list, floats_list, limits_list, goals_list, weights_list, tool_list, chain_list}
use Rattle.sequences.specs.Lists.{joints_at}

abbrev pub load_at : State → List ℕ → ℕ → Outcome
load_at st s at =
    load_of st (numbers_in 8 (list_of s at sizes_list)) (numbers_in 80 (list_of s at codes_list)) (floats_in 512 (list_of s at floats_list)) (floats_in 64 (list_of s at limits_list))

abbrev pub set_goals_at : State → List ℕ → ℕ → Outcome
set_goals_at st s at = set_goals_of st (floats_in 64 (list_of s at goals_list))

abbrev pub reset_at : State → List ℕ → ℕ → Outcome
reset_at st s at = reset_state_of st (joints_at s at)

abbrev pub update_at : State → List ℕ → ℕ → Outcome
update_at st s at = update_state_of st (joints_at s at)

-- the weights are stored as goals are
abbrev pub set_weights_at : State → List ℕ → ℕ → Outcome
set_weights_at st s at = set_weights_of st (floats_in 64 (list_of s at weights_list))

-- so is a tool; its chain is a u16
abbrev pub set_tool_at : State → List ℕ → ℕ → Outcome
set_tool_at st s at = set_tool_of st (number_at (list_of s at chain_list) 0) (floats_in 64 (list_of s at tool_list))

abbrev pub outcome_if : Bool → Outcome → Outcome → Outcome
outcome_if true a b = a
outcome_if false a b = b

-- by the record's call: 0 begins anew, 1 to 4, 13 and 14 are the calls above, and every other leaves the state
unfoldable pub outcome_at : ℕ → State → List ℕ → ℕ → Outcome
outcome_at c st s at =
    outcome_if (eqb c 0) (record { number = 0; state = empty_state })
    (outcome_if (eqb c 1) (load_at st s at)
    (outcome_if (eqb c 2) (set_goals_at st s at)
    (outcome_if (eqb c 3) (reset_at st s at)
    (outcome_if (eqb c 4) (update_at st s at)
    (outcome_if (eqb c 13) (set_weights_at st s at)
    (outcome_if (eqb c 14) (set_tool_at st s at)
    (record { number = 0; state = st })))))))
