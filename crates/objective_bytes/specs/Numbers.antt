-- Each byte call on the objective gets the lowest number of a condition that holds, and is accepted where none holds.
use Rattle.std.specs.Prelude.{◌≡◌, List, [], ◌∷◌, ◌++◌, ℕ, Float}
use Rattle.std.proofs.Math.Path.{refl}
use Rattle.std.proofs.Common.{ap, ◌∙◌}
use Rattle.sheet.specs.Chain.{joints}
use Rattle.refusals.specs.Lengths.{scratch_length, slopes_length, value_length}
use Rattle.refusals.specs.Lowest.{first_of, first-assoc}
use Rattle.refusals.specs.Refusal.{chains_of, block_refusal, history_refusal, goals_refusal, weights_refusal}
use Rattle.refusals.specs.Rows.{Row, first_row, up_from, IsLowest, lowest-row, block_row, history_row, goals_row, room_row, weights_row, tools_row, goals-row, weights-row, tools-row, alone}
use Rattle.calls.specs.Rows.{block-then, room-then}
use Rattle.lent_bytes.specs.SheetLists.{SheetLists}
use Rattle.arm_bytes.specs.ArmCalls.{load_number}
use Rattle.arm_bytes.specs.Numbers.{history-then, sheet_rows, after-load}
use Rattle.objective_bytes.specs.ObjectiveCalls.{TaskLists, task_number, optional_number, objective_number, slopes_number}

module _ (s : SheetLists) (goals history x : List Float) where
  -- the conditions of sheet, joints, history and goals, 1 to 8, before a call's own
  abbrev pub task_rows : List Row → List Row
  task_rows rs = sheet_rows s ++ (block_row s.codes x ∷ history_row s.codes history ∷ goals_row (chains_of s.sizes) goals ∷ rs)

  pub task-then : (n : ℕ) (rs : List Row) → n ≡ first_row rs → first_of (task_number s goals history x) n ≡ first_row (task_rows rs)
  unfolding task_number
  task-then n rs e =
      let a = block_refusal s.codes x in
      let b = history_refusal s.codes history in
      let g = goals_refusal (chains_of s.sizes) goals in
      first-assoc (load_number s) (first_of (first_of a b) g) n
      ∙ after-load s _ _
      (first-assoc (first_of a b) g n ∙ first-assoc a b (first_of g n)
      ∙ block-then s.codes x _ _ (history-then s.codes history _ _ (ap (first_of g) e ∙ goals-row (chains_of s.sizes) goals rs)))

-- the conditions of the lists that may be left out
abbrev pub optional_rows : SheetLists → TaskLists → List Row
optional_rows s t = weights_row t.weights ∷ tools_row (chains_of s.sizes) t.tools ∷ []

pub optional-last : (s : SheetLists) (t : TaskLists) → optional_number s t ≡ first_row (optional_rows s t)
unfolding optional_number
optional-last s t = ap (first_of (weights_refusal t.weights)) (alone _ _ (tools-row (chains_of s.sizes) t.tools [])) ∙ weights-row t.weights _

module _ (s : SheetLists) (t : TaskLists) (x : List Float) where
  pub objective-number-lowest : (value : ℕ) → IsLowest (task_rows s t.goals t.history x (room_row value_length value ∷ optional_rows s t)) (objective_number s t x value)
  unfolding objective_number up_from
  objective-number-lowest value = lowest-row _ _ refl (task-then s t.goals t.history x _ _ (room-then value_length value _ _ (optional-last s t)))

  pub slopes-number-lowest : (scratch value slopes : ℕ)
      → IsLowest (task_rows s t.goals t.history x (room_row (scratch_length s.codes) scratch ∷ room_row value_length value ∷ room_row (slopes_length s.codes) slopes ∷ optional_rows s t))
      (slopes_number s t x scratch value slopes)
  unfolding slopes_number up_from
  slopes-number-lowest scratch value slopes =
      let k = joints s.codes in
      lowest-row _ _ refl
      (task-then s t.goals t.history x _ _
      (room-then k scratch _ _ (room-then value_length value _ _ (room-then k slopes _ _ (optional-last s t)))))
