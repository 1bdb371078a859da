-- When a record of a byte call on an arm sheet agrees with what the call answers. The record has the call's lists in the order of its parameters, the outputs last.
use Rattle.std.specs.Prelude.{Bool, List, [], ◌∷◌, ℕ, ◌+◌, length, Float}
use Rattle.lent_bytes.specs.Lent.{room_in, number_room_in, bytes_of, bytes_of_numbers}
use Rattle.lent_bytes.specs.SheetLists.{SheetLists, sizes_from, codes_from, link_floats_from, sheet_from, block_from, goals_from, history_from}
use Rattle.lent_bytes.specs.Picks.{picks_from}
use Rattle.lent_bytes.specs.ToolLists.{tool_floats_from, tools_from}
use Rattle.task.specs.declared.picks.Picks.{Picks}
use Rattle.arm_bytes.specs.ArmCalls.{load_number, sizing_number, set_goals_number, set_tool_number, frames_number, pose_number, update_number, reset_number, manipulability_number}
use Rattle.arm_bytes.specs.ArmCalls.{plan_numbers, frame_positions, frame_rotations, end_poses, updated_blocks, reset_blocks, manipulability_value}
use Rattle.stored_answers.specs.Stored.{number_at, list_of}
use Rattle.replay_calls.specs.Table.{sizes_list, codes_list, floats_list, limits_list, goals_list, update_history, update_joints, update_output, arm_tools_list, pose_joints, pose_outputs, arm_joints, arm_outputs, plan_pick, plan_output, tool_list, chain_list}
use Rattle.stored_answers.specs.Agree.{written, answer_agrees}

-- what the record at a place lends the call
abbrev pub sheet_at : List ℕ → ℕ → SheetLists
sheet_at s at = sheet_from (list_of s at sizes_list) (list_of s at codes_list) (list_of s at floats_list) (list_of s at limits_list)

abbrev pub block_at : List ℕ → ℕ → ℕ → List Float
block_at s at k = block_from (list_of s at k)

abbrev goals_at : List ℕ → ℕ → ℕ → List Float
goals_at s at k = goals_from (list_of s at k)

abbrev history_at : List ℕ → ℕ → ℕ → List Float
history_at s at k = history_from (list_of s at k)

-- four tools from list k on
abbrev pub tools_at : List ℕ → ℕ → ℕ → List Float
tools_at s at k = tools_from (list_of s at k) (list_of s at (k + 1)) (list_of s at (k + 2)) (list_of s at (k + 3))

abbrev pub room_at : List ℕ → ℕ → ℕ → ℕ
room_at s at k = room_in (length (list_of s at k))

abbrev pub number_room_at : List ℕ → ℕ → ℕ → ℕ
number_room_at s at k = number_room_in (length (list_of s at k))

-- the u16 that list k is, 0 where it has no byte; as a pick
abbrev pub list_number : List ℕ → ℕ → ℕ → ℕ
list_number s at k = number_at (list_of s at k) 0

abbrev pub picks_at : List ℕ → ℕ → ℕ → Picks
picks_at s at k = picks_from (list_number s at k)

unfoldable pub load_agrees : List ℕ → ℕ → Bool
load_agrees s at = answer_agrees s at (load_number (sheet_at s at)) 0 []

unfoldable pub set_goals_agrees : List ℕ → ℕ → Bool
set_goals_agrees s at = answer_agrees s at (set_goals_number (sheet_at s at) (goals_at s at goals_list)) 0 []

-- a tool, and the chain's number; no output
unfoldable pub set_tool_agrees : List ℕ → ℕ → Bool
set_tool_agrees s at = answer_agrees s at (set_tool_number (sheet_at s at) (tool_floats_from (list_of s at tool_list)) (list_number s at chain_list)) 0 []

-- Of each call its number, and the outputs after it. Joints; positions, rotations:
abbrev frames_at : List ℕ → ℕ → ℕ
frames_at s at = frames_number (sheet_at s at) (block_at s at arm_joints) (room_at s at arm_outputs) (room_at s at (arm_outputs + 1))

unfoldable pub frames_agree : List ℕ → ℕ → Bool
frames_agree s at =
    answer_agrees s at (frames_at s at) arm_outputs
    (written (frames_at s at) (list_of s at arm_outputs) (bytes_of (frame_positions (sheet_at s at) (block_at s at arm_joints)))
    ∷ written (frames_at s at) (list_of s at (arm_outputs + 1)) (bytes_of (frame_rotations (sheet_at s at) (block_at s at arm_joints)))
    ∷ [])

-- tools, joints; end poses
abbrev pose_at : List ℕ → ℕ → ℕ
pose_at s at = pose_number (sheet_at s at) (tools_at s at arm_tools_list) (block_at s at pose_joints) (room_at s at pose_outputs)

unfoldable pub pose_agrees : List ℕ → ℕ → Bool
pose_agrees s at =
    answer_agrees s at (pose_at s at) pose_outputs
    (written (pose_at s at) (list_of s at pose_outputs) (bytes_of (end_poses (sheet_at s at) (tools_at s at arm_tools_list) (block_at s at pose_joints))) ∷ [])

-- joints; one float
abbrev manipulability_at : List ℕ → ℕ → ℕ
manipulability_at s at = manipulability_number (sheet_at s at) (block_at s at arm_joints) (room_at s at arm_outputs)

unfoldable pub manipulability_agrees : List ℕ → ℕ → Bool
manipulability_agrees s at =
    answer_agrees s at (manipulability_at s at) arm_outputs
    (written (manipulability_at s at) (list_of s at arm_outputs) (bytes_of (manipulability_value (sheet_at s at) (block_at s at arm_joints))) ∷ [])

-- tools, joints; history, end poses
abbrev reset_at : List ℕ → ℕ → ℕ
reset_at s at = reset_number (sheet_at s at) (tools_at s at arm_tools_list) (block_at s at pose_joints) (room_at s at pose_outputs) (room_at s at (pose_outputs + 1))

unfoldable pub reset_agrees : List ℕ → ℕ → Bool
reset_agrees s at =
    answer_agrees s at (reset_at s at) pose_outputs
    (written (reset_at s at) (list_of s at pose_outputs) (bytes_of (reset_blocks (block_at s at pose_joints)))
    ∷ written (reset_at s at) (list_of s at (pose_outputs + 1)) (bytes_of (end_poses (sheet_at s at) (tools_at s at arm_tools_list) (block_at s at pose_joints)))
    ∷ [])

-- history, joints; the new history
abbrev update_at : List ℕ → ℕ → ℕ
update_at s at = update_number (sheet_at s at) (history_at s at update_history) (block_at s at update_joints) (room_at s at update_output)

unfoldable pub update_agrees : List ℕ → ℕ → Bool
update_agrees s at =
    answer_agrees s at (update_at s at) update_output
    (written (update_at s at) (list_of s at update_output) (bytes_of (updated_blocks (history_at s at update_history) (block_at s at update_joints))) ∷ [])

-- no limits; a pick; the plan
abbrev sizing_at : List ℕ → ℕ → ℕ
sizing_at s at =
    sizing_number (sizes_from (list_of s at sizes_list)) (codes_from (list_of s at codes_list)) (link_floats_from (list_of s at floats_list)) (number_room_at s at plan_output)

unfoldable pub sizing_agrees : List ℕ → ℕ → Bool
sizing_agrees s at =
    answer_agrees s at (sizing_at s at) plan_output
    (written (sizing_at s at) (list_of s at plan_output) (bytes_of_numbers (plan_numbers (picks_at s at plan_pick) (sizes_from (list_of s at sizes_list)) (codes_from (list_of s at codes_list)))) ∷ [])
