-- Each byte call gets the lowest number of a condition that holds, and is accepted where none holds.
use Rattle.std.specs.Prelude.{◌≡◌, List, [], ◌∷◌, ◌++◌, ℕ, Float}
use Rattle.std.proofs.Math.Path.{refl}
use Rattle.std.proofs.Common.{ap, ◌∙◌}
use Rattle.refusals.specs.Lengths.{ends_length, history_length, value_length, plan_length}
use Rattle.refusals.specs.Lowest.{first_of, first-assoc}
use Rattle.refusals.specs.Refusal.{chains_of, links_of, sizing_refusal, block_refusal, history_refusal, room_refusal}
use Rattle.refusals.specs.Rows.{Row, first_row, up_from, IsLowest, lowest-row, load_rows, sizing_rows, block_row, history_row, goals_row, room_row, tool_row, tools_row, history-row, goals-row, tool-row, tools-row, load_row, load-lowest, sizing-row, alone}
use Rattle.calls.specs.Frames.{pose_refusal}
use Rattle.calls.specs.Rows.{frames_rows, room-alone, block-then, room-then, frames-rows}
use Rattle.lent_bytes.specs.SheetLists.{SheetLists}
use Rattle.arm_bytes.specs.ArmCalls.{load_number, sizing_number, set_goals_number, set_tool_number, tools_number, frames_number, pose_number, update_number, reset_number, manipulability_number}

-- a history's number before others
pub history-then : (cs : List ℕ) (h : List Float) (k : ℕ) (rs : List Row) → k ≡ first_row rs → first_of (history_refusal cs h) k ≡ first_row (history_row cs h ∷ rs)
history-then cs h k rs e = ap (first_of (history_refusal cs h)) e ∙ history-row cs h rs

pub sizing-number-lowest : (sizes codes : List ℕ) (floats : List Float) (room : ℕ)
    → IsLowest (sizing_rows sizes codes floats ++ (room_row plan_length room ∷ [])) (sizing_number sizes codes floats room)
unfolding sizing_number up_from
sizing-number-lowest sizes codes floats room =
    lowest-row _ _ refl (ap (first_of (sizing_refusal sizes codes floats)) (room-alone plan_length room) ∙ sizing-row sizes codes floats (room_row plan_length room ∷ []))

module _ (s : SheetLists) where
  -- the sheet's conditions, 1 to 6
  abbrev pub sheet_rows : List Row
  sheet_rows = load_rows s.sizes s.codes s.floats s.limits

  -- a call's own conditions come after them
  pub after-load : (n : ℕ) (rs : List Row) → n ≡ first_row rs → first_of (load_number s) n ≡ first_row (sheet_rows ++ rs)
  after-load n rs e = ap (first_of (load_number s)) e ∙ load_row s.sizes s.codes s.floats s.limits rs

  pub load-number : IsLowest sheet_rows (load_number s)
  load-number = load-lowest s.sizes s.codes s.floats s.limits

  pub set-goals-number : (goals : List Float) → IsLowest (sheet_rows ++ (goals_row (chains_of s.sizes) goals ∷ [])) (set_goals_number s goals)
  unfolding set_goals_number up_from
  set-goals-number goals =
      lowest-row _ _ refl
      (after-load _ _ (alone _ _ (goals-row (chains_of s.sizes) goals [])))

  pub frames-number-lowest : (x : List Float) (p r : ℕ) → IsLowest (sheet_rows ++ frames_rows (links_of s.sizes) s.codes x p r) (frames_number s x p r)
  unfolding frames_number up_from
  frames-number-lowest x p r = lowest-row _ _ refl (after-load _ _ (frames-rows (links_of s.sizes) s.codes x p r))

  -- the last of the tools' own
  tools-last : (tools : List Float) → tools_number s tools ≡ first_row (tools_row (chains_of s.sizes) tools ∷ [])
  tools-last tools = alone _ _ (tools-row (chains_of s.sizes) tools [])

  pub set-tool-number : (tool : List Float) (c : ℕ) → IsLowest (sheet_rows ++ (tool_row (chains_of s.sizes) c tool ∷ [])) (set_tool_number s tool c)
  unfolding set_tool_number up_from
  set-tool-number tool c = lowest-row _ _ refl (after-load _ _ (alone _ _ (tool-row (chains_of s.sizes) c tool [])))

  pub pose-number-lowest : (tools x : List Float) (n : ℕ)
      → IsLowest
      (sheet_rows ++ (block_row s.codes x ∷ room_row (ends_length (links_of s.sizes)) n ∷ tools_row (chains_of s.sizes) tools ∷ []))
      (pose_number s tools x n)
  unfolding pose_number pose_refusal up_from
  pose-number-lowest tools x n =
      lowest-row _ _ refl
      (after-load _ _ (first-assoc _ _ _ ∙ block-then s.codes x _ _ (room-then (ends_length (links_of s.sizes)) n _ _ (tools-last tools))))

  pub update-number-lowest : (history x : List Float) (n : ℕ)
      → IsLowest
      (sheet_rows ++ (block_row s.codes x ∷ history_row s.codes history ∷ room_row (history_length s.codes) n ∷ []))
      (update_number s history x n)
  unfolding update_number up_from
  update-number-lowest history x n =
      let cs = s.codes in
      lowest-row _ _ refl
      (after-load _ _
      (first-assoc (block_refusal cs x) (history_refusal cs history) (room_refusal (history_length cs) n)
      ∙ block-then cs x _ _ (history-then cs history _ _ (room-alone (history_length cs) n))))

  pub reset-number-lowest : (tools x : List Float) (h n : ℕ)
      → IsLowest
      (sheet_rows ++ (block_row s.codes x ∷ room_row (ends_length (links_of s.sizes)) n ∷ room_row (history_length s.codes) h ∷ tools_row (chains_of s.sizes) tools ∷ []))
      (reset_number s tools x h n)
  unfolding reset_number pose_refusal up_from
  reset-number-lowest tools x h n =
      let ends = ends_length (links_of s.sizes) in
      lowest-row _ _ refl
      (after-load _ _
      (first-assoc _ _ _ ∙ first-assoc _ _ _
      ∙ block-then s.codes x _ _ (room-then ends n _ _ (room-then (history_length s.codes) h _ _ (tools-last tools)))))

  pub manipulability-number-lowest : (x : List Float) (n : ℕ)
      → IsLowest (sheet_rows ++ (block_row s.codes x ∷ room_row value_length n ∷ [])) (manipulability_number s x n)
  unfolding manipulability_number up_from
  manipulability-number-lowest x n = lowest-row _ _ refl (after-load _ _ (block-then s.codes x _ _ (room-alone value_length n)))
