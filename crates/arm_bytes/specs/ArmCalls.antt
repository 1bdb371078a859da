-- The byte calls on an arm sheet: their numbers and what they write. They keep no state, so the sheet is lent each time.
use Rattle.std.specs.Prelude.{List, [], ◌∷◌, ◌++◌, ℕ, ◌*◌, Float, length, take}
use Rattle.lists.specs.Splice.{splice}
use Rattle.geometry.specs.declared.pose.Pose.{Pose}
use Rattle.spacetime.specs.Walk.{pose_of}
use Rattle.spacetime.specs.Frames.{positions_of, rotations_of, ends_of}
use Rattle.manipulability.specs.Jacobian.{manipulability_of}
use Rattle.refusals.specs.Lengths.{history_length, value_length, plan_length}
use Rattle.refusals.specs.Lowest.{first_of}
use Rattle.task.specs.declared.picks.Picks.{Picks}
use Rattle.refusals.specs.Refusal.{chains_of, links_of, load_refusal, sizing_refusal, block_refusal, history_refusal, goals_refusal, room_refusal, tool_refusal, tools_refusal}
use Rattle.calls.specs.Arms.{if_taken}
use Rattle.calls.specs.Frames.{frames_refusal, pose_refusal}
use Rattle.sizing.specs.Sizing.{sheet_plan, plan_list}
use Rattle.lent_bytes.specs.Lent.{bytes_of, bytes_of_numbers}
use Rattle.lists.specs.Lent.{LentOutput, output_lent}
use Rattle.lent_bytes.specs.SheetLists.{SheetLists}

-- ---- the numbers: those of loading, 1 to 6, then the call's own; 0 is accepted. Rooms are in floats, that of sizing in u16s.
abbrev pub load_number : SheetLists → ℕ
load_number s = load_refusal s.sizes s.codes s.floats s.limits

-- sizing, which is lent no limits: those of loading but 5, then 9 for an output without room for a plan
unfoldable pub sizing_number : List ℕ → List ℕ → List Float → ℕ → ℕ
sizing_number sizes codes floats room = first_of (sizing_refusal sizes codes floats) (room_refusal plan_length room)

-- setting goals: then 8
unfoldable pub set_goals_number : SheetLists → List Float → ℕ
set_goals_number s goals = first_of (load_number s) (goals_refusal (chains_of s.sizes) goals)

-- frames of block x: then 7, then 9
unfoldable pub frames_number : SheetLists → List Float → ℕ → ℕ → ℕ
frames_number s x positions rotations = first_of (load_number s) (frames_refusal (links_of s.sizes) s.codes x positions rotations)

-- setting chain c's tool: then 11
unfoldable pub set_tool_number : SheetLists → List Float → ℕ → ℕ
set_tool_number s tool c = first_of (load_number s) (tool_refusal (chains_of s.sizes) c tool)

-- 11, for the tools that a call is lent
abbrev pub tools_number : SheetLists → List Float → ℕ
tools_number s tools = tools_refusal (chains_of s.sizes) tools

-- end poses of block x: then 7, then 9, then 11
unfoldable pub pose_number : SheetLists → List Float → List Float → ℕ → ℕ
pose_number s tools x ends = first_of (load_number s) (first_of (pose_refusal (links_of s.sizes) s.codes x ends) (tools_number s tools))

-- an update with block x of a history, which is four joint blocks: then 7, for either, then 9
unfoldable pub update_number : SheetLists → List Float → List Float → ℕ → ℕ
update_number s history x room =
    first_of (load_number s)
    (first_of (first_of (block_refusal s.codes x) (history_refusal s.codes history)) (room_refusal (history_length s.codes) room))

-- a reset to block x: then 7, then 9 for either output, then 11
unfoldable pub reset_number : SheetLists → List Float → List Float → ℕ → ℕ → ℕ
reset_number s tools x history ends =
    first_of (load_number s)
    (first_of (first_of (pose_refusal (links_of s.sizes) s.codes x ends) (room_refusal (history_length s.codes) history)) (tools_number s tools))

-- manipulability at block x: then 7, then 9 for an output without room for one float
unfoldable pub manipulability_number : SheetLists → List Float → ℕ → ℕ
manipulability_number s x room = first_of (load_number s) (first_of (block_refusal s.codes x) (room_refusal value_length room))

-- ---- what they write, in floats, and sizing in u16s
-- the plan of a sheet, under a pick
unfoldable pub plan_numbers : Picks → List ℕ → List ℕ → List ℕ
plan_numbers p sizes codes = plan_list (sheet_plan p sizes codes)

-- the pose after each link in the walk of block x
abbrev pub poses_on : SheetLists → List Float → ℕ → Pose
poses_on s x = pose_of (links_of s.sizes) s.codes s.floats x

-- the frames of block x, and the end poses, each followed by its chain's tool if it has one
unfoldable pub frame_positions : SheetLists → List Float → List Float
frame_positions s x = positions_of (links_of s.sizes) (poses_on s x)

unfoldable pub frame_rotations : SheetLists → List Float → List Float
frame_rotations s x = rotations_of (links_of s.sizes) (poses_on s x)

unfoldable pub end_poses : SheetLists → List Float → List Float → List Float
end_poses s tools x = ends_of (links_of s.sizes) tools (poses_on s x)

-- update: the new block, then the first three of the old; the fourth is dropped
unfoldable pub updated_blocks : List Float → List Float → List Float
updated_blocks history x = x ++ take (3 * length x) history

-- reset: all four blocks are the start
unfoldable pub reset_blocks : List Float → List Float
reset_blocks x = ((x ++ x) ++ x) ++ x

-- manipulability: one float, of the poses of the walk
unfoldable pub manipulability_value : SheetLists → List Float → List Float
manipulability_value s x = manipulability_of (poses_on s x) (links_of s.sizes) s.codes ∷ []

-- an output after a call of number r: the bytes at its front, its tail kept; as it was where the call is refused
abbrev pub output_of : ℕ → LentOutput ℕ → List Float → List ℕ
output_of r out answer = if_taken r (output_lent out) (splice (output_lent out) 0 (bytes_of answer))

-- the same of an output of u16s
abbrev pub numbers_output_of : ℕ → LentOutput ℕ → List ℕ → List ℕ
numbers_output_of r out answer = if_taken r (output_lent out) (splice (output_lent out) 0 (bytes_of_numbers answer))
