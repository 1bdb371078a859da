-- The same for the byte calls on the objective: goals, history, weights, tools, joints and a pick; the outputs last.
use Rattle.std.specs.Prelude.{Bool, List, [], ◌∷◌, ℕ, ◌+◌, Float}
use Rattle.lent_bytes.specs.Lent.{bytes_of, bytes_of_numbers}
use Rattle.objective_bytes.specs.ObjectiveCalls.{TaskLists, weights_from, task_from, set_weights_number, objective_number, slopes_number, objective_value, gradient_slopes, finite_diff_slopes}
use Rattle.one_block_bytes.specs.OneBlockCalls.{one_block_number, record_joints_in, record_links_in, record_poses_in}
use Rattle.stored_answers.specs.Stored.{list_of}
use Rattle.stored_answers.specs.Agree.{written, answer_agrees}
use Rattle.replay_calls.specs.Table.{goals_list, history_list, weights_list, tools_list, joints_list, pick_list, objective_outputs, set_weights_list}
use Rattle.replay_calls.specs.Arms.{sheet_at, block_at, tools_at, picks_at, room_at, number_room_at}

-- the weights alone; no output
unfoldable pub set_weights_agrees : List ℕ → ℕ → Bool
set_weights_agrees s at = answer_agrees s at (set_weights_number (weights_from (list_of s at set_weights_list))) 0 []

-- what the record at a place lends the others beside the sheet and the joints
abbrev pub task_at : List ℕ → ℕ → TaskLists
task_at s at = task_from (list_of s at goals_list) (list_of s at history_list) (list_of s at weights_list) (tools_at s at tools_list)

abbrev pub value_at : List ℕ → ℕ → List Float
value_at s at = objective_value (sheet_at s at) (task_at s at) (picks_at s at pick_list) (block_at s at joints_list)

-- one float
abbrev objective_at : List ℕ → ℕ → ℕ
objective_at s at = objective_number (sheet_at s at) (task_at s at) (block_at s at joints_list) (room_at s at objective_outputs)

unfoldable pub objective_agrees : List ℕ → ℕ → Bool
objective_agrees s at =
    answer_agrees s at (objective_at s at) objective_outputs (written (objective_at s at) (list_of s at objective_outputs) (bytes_of (value_at s at)) ∷ [])

-- scratch, one float, slopes; by steps of 1e-7 and of 1e-6
abbrev slopes_at : List ℕ → ℕ → ℕ
slopes_at s at = slopes_number (sheet_at s at) (task_at s at) (block_at s at joints_list) (room_at s at objective_outputs) (room_at s at (objective_outputs + 1)) (room_at s at (objective_outputs + 2))

unfoldable pub gradient_agrees : List ℕ → ℕ → Bool
gradient_agrees s at =
    answer_agrees s at (slopes_at s at) objective_outputs
    (written (slopes_at s at) (list_of s at objective_outputs) (bytes_of (block_at s at joints_list))
    ∷ written (slopes_at s at) (list_of s at (objective_outputs + 1)) (bytes_of (value_at s at))
    ∷ written (slopes_at s at) (list_of s at (objective_outputs + 2)) (bytes_of (gradient_slopes (sheet_at s at) (task_at s at) (picks_at s at pick_list) (block_at s at joints_list)))
    ∷ [])

unfoldable pub finite_diff_agrees : List ℕ → ℕ → Bool
finite_diff_agrees s at =
    answer_agrees s at (slopes_at s at) objective_outputs
    (written (slopes_at s at) (list_of s at objective_outputs) (bytes_of (block_at s at joints_list))
    ∷ written (slopes_at s at) (list_of s at (objective_outputs + 1)) (bytes_of (value_at s at))
    ∷ written (slopes_at s at) (list_of s at (objective_outputs + 2)) (bytes_of (finite_diff_slopes (sheet_at s at) (task_at s at) (picks_at s at pick_list) (block_at s at joints_list)))
    ∷ [])

-- one float, slopes, and the record: joints, links, poses
abbrev one_block_at : List ℕ → ℕ → ℕ
one_block_at s at =
    one_block_number (sheet_at s at) (task_at s at) (block_at s at joints_list) (room_at s at objective_outputs) (room_at s at (objective_outputs + 1))
    (number_room_at s at (objective_outputs + 2)) (number_room_at s at (objective_outputs + 3)) (room_at s at (objective_outputs + 4))

unfoldable pub one_block_agrees : List ℕ → ℕ → Bool
one_block_agrees s at =
    answer_agrees s at (one_block_at s at) objective_outputs
    (written (one_block_at s at) (list_of s at objective_outputs) (bytes_of (value_at s at))
    ∷ written (one_block_at s at) (list_of s at (objective_outputs + 1)) (bytes_of (gradient_slopes (sheet_at s at) (task_at s at) (picks_at s at pick_list) (block_at s at joints_list)))
    ∷ written (one_block_at s at) (list_of s at (objective_outputs + 2)) (bytes_of_numbers (record_joints_in (sheet_at s at)))
    ∷ written (one_block_at s at) (list_of s at (objective_outputs + 3)) (bytes_of_numbers (record_links_in (sheet_at s at)))
    ∷ written (one_block_at s at) (list_of s at (objective_outputs + 4)) (bytes_of (record_poses_in (sheet_at s at) (block_at s at joints_list)))
    ∷ [])
