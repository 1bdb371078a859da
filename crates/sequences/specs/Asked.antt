-- When a record agrees with what its call answers on a state: the number, the value as one float (a NaN where the call is refused), and every output.
use Rattle.std.specs.Prelude.{Bool, cond, List, [], ◌∷◌, ℕ, ◌+◌, eqb, ltb, Float, length}
use Rattle.spacetime.specs.Frames.{positions_of, rotations_of, ends_of}
use Rattle.calls.specs.Answer.{value_if}
use Rattle.lent_bytes.specs.Lent.{bytes_of, bytes_of_numbers}
use Rattle.state_calls.specs.declared.state.State.{State}
use Rattle.state_calls.specs.State.{links_used}
use Rattle.state_calls.specs.Arms.{poses_of, frames_number_of, pose_number_of, manipulability_number_of, manipulability_value_of}
use Rattle.state_calls.specs.Objective.{objective_number_of, objective_value_of, gradient_number_of, gradient_slopes_of, finite_diff_slopes_of}
use Rattle.state_calls.specs.OneBlock.{one_block_number_of, record_joints_of, record_links_of, record_poses_of}
use Rattle.stored_answers.specs.Stored.{number_at, list_of}
use Rattle.stored_answers.specs.Agree.{answer_agrees}
use Rattle.sequences.specs.Table.{outputs, objective_outputs, kept_lists}
use Rattle.sequences.specs.Lists.{joints_at, strict_at, filled_floats, filled_numbers, left_floats, left_numbers}
use Rattle.sequences.specs.Changes.{outcome_at}

-- how long a record's output k is before its call
abbrev pub room_at : List ℕ → ℕ → ℕ → ℕ
room_at s at k = length (filled_floats (list_of s at k))

abbrev pub number_room_at : List ℕ → ℕ → ℕ → ℕ
number_room_at s at k = length (filled_numbers (list_of s at k))

-- a value, where the number is 0
abbrev pub value_bytes : ℕ → Float → List ℕ
value_bytes r v = bytes_of (value_if r v ∷ [])

-- positions, rotations
abbrev frames_at : State → List ℕ → ℕ → ℕ
frames_at st s at = frames_number_of st (joints_at s at) (room_at s at outputs) (room_at s at (outputs + 1))

unfoldable pub frames_agree : State → List ℕ → ℕ → Bool
frames_agree st s at =
    answer_agrees s at (frames_at st s at) outputs
    (bytes_of (left_floats (frames_at st s at) (list_of s at outputs) (positions_of (links_used st.arms.sizes) (poses_of st (joints_at s at))))
    ∷ bytes_of (left_floats (frames_at st s at) (list_of s at (outputs + 1)) (rotations_of (links_used st.arms.sizes) (poses_of st (joints_at s at))))
    ∷ [])

-- end poses
abbrev pose_at : State → List ℕ → ℕ → ℕ
pose_at st s at = pose_number_of st (joints_at s at) (room_at s at outputs)

unfoldable pub pose_agrees : State → List ℕ → ℕ → Bool
pose_agrees st s at =
    answer_agrees s at (pose_at st s at) outputs
    (bytes_of (left_floats (pose_at st s at) (list_of s at outputs) (ends_of (links_used st.arms.sizes) st.arms.tools (poses_of st (joints_at s at)))) ∷ [])

-- a value
abbrev manipulability_at : State → List ℕ → ℕ → ℕ
manipulability_at st s at = manipulability_number_of st (joints_at s at)

unfoldable pub manipulability_agrees : State → List ℕ → ℕ → Bool
manipulability_agrees st s at =
    answer_agrees s at (manipulability_at st s at) outputs (value_bytes (manipulability_at st s at) (manipulability_value_of st (joints_at s at)) ∷ [])

abbrev objective_at : State → List ℕ → ℕ → ℕ
objective_at st s at = objective_number_of st (joints_at s at)

unfoldable pub objective_agrees : State → List ℕ → ℕ → Bool
objective_agrees st s at =
    answer_agrees s at (objective_at st s at) objective_outputs (value_bytes (objective_at st s at) (objective_value_of st (strict_at s at) (joints_at s at)) ∷ [])

-- a value, scratch, slopes: f says which
abbrev gradient_at : State → List ℕ → ℕ → ℕ
gradient_at st s at = gradient_number_of st (joints_at s at) (room_at s at (objective_outputs + 1)) (room_at s at (objective_outputs + 2))

abbrev slopes_agree : (State → Bool → List Float → List Float) → State → List ℕ → ℕ → Bool
slopes_agree f st s at =
    answer_agrees s at (gradient_at st s at) objective_outputs
    (value_bytes (gradient_at st s at) (objective_value_of st (strict_at s at) (joints_at s at))
    ∷ bytes_of (left_floats (gradient_at st s at) (list_of s at (objective_outputs + 1)) (joints_at s at))
    ∷ bytes_of (left_floats (gradient_at st s at) (list_of s at (objective_outputs + 2)) (f st (strict_at s at) (joints_at s at)))
    ∷ [])

unfoldable pub gradient_agrees : State → List ℕ → ℕ → Bool
gradient_agrees st s at = slopes_agree gradient_slopes_of st s at

unfoldable pub finite_diff_agrees : State → List ℕ → ℕ → Bool
finite_diff_agrees st s at = slopes_agree finite_diff_slopes_of st s at

-- a value, the block as it came, slopes, and the record: joints, links, poses
abbrev one_block_at : State → List ℕ → ℕ → ℕ
one_block_at st s at =
    one_block_number_of st (joints_at s at) (room_at s at (objective_outputs + 2)) (number_room_at s at (objective_outputs + 3)) (number_room_at s at (objective_outputs + 4)) (room_at s at (objective_outputs + 5))

unfoldable pub one_block_agrees : State → List ℕ → ℕ → Bool
one_block_agrees st s at =
    answer_agrees s at (one_block_at st s at) objective_outputs
    (value_bytes (one_block_at st s at) (objective_value_of st (strict_at s at) (joints_at s at))
    ∷ bytes_of (joints_at s at)
    ∷ bytes_of (left_floats (one_block_at st s at) (list_of s at (objective_outputs + 2)) (gradient_slopes_of st (strict_at s at) (joints_at s at)))
    ∷ bytes_of_numbers (left_numbers (one_block_at st s at) (list_of s at (objective_outputs + 3)) (record_joints_of st))
    ∷ bytes_of_numbers (left_numbers (one_block_at st s at) (list_of s at (objective_outputs + 4)) (record_links_of st))
    ∷ bytes_of (left_floats (one_block_at st s at) (list_of s at (objective_outputs + 5)) (record_poses_of st (joints_at s at)))
    ∷ [])

-- what the state keeps: goals, the four blocks of the history, the end poses at the last reset, zeros behind each
unfoldable pub kept_agrees : State → List ℕ → ℕ → Bool
kept_agrees st s at =
    answer_agrees s at 0 kept_lists
    (bytes_of st.party.goals
    ∷ bytes_of st.party.history.xopt
    ∷ bytes_of st.party.history.prev_state
    ∷ bytes_of st.party.history.prev_state2
    ∷ bytes_of st.party.history.prev_state3
    ∷ bytes_of st.party.start_poses
    ∷ [])

-- a call that changes the state: its number
abbrev pub change_agrees : ℕ → State → List ℕ → ℕ → Bool
change_agrees c st s at = answer_agrees s at (outcome_at c st s at).number 0 []

-- 5 to 10, the calls that leave it
unfoldable pub asked_agrees : ℕ → State → List ℕ → ℕ → Bool
asked_agrees c st s at =
    cond (eqb c 5) (frames_agree st s at)
    (cond (eqb c 6) (pose_agrees st s at)
    (cond (eqb c 7) (manipulability_agrees st s at)
    (cond (eqb c 8) (objective_agrees st s at)
    (cond (eqb c 9) (gradient_agrees st s at)
    (finite_diff_agrees st s at)))))

-- all of them
unfoldable pub call_agrees : ℕ → State → List ℕ → ℕ → Bool
call_agrees c st s at =
    cond (ltb c 5) (change_agrees c st s at)
    (cond (ltb c 11) (asked_agrees c st s at)
    (cond (eqb c 11) (one_block_agrees st s at)
    (cond (eqb c 12) (kept_agrees st s at)
    (change_agrees c st s at))))

unfoldable pub step_agrees : State → List ℕ → ℕ → Bool
step_agrees st s at = call_agrees (number_at s at) st s at
