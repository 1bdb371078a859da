-- The byte call gets the lowest number of a condition that holds, and is accepted where none holds.
use Rattle.std.specs.Prelude.{refl, List, ◌∷◌, ◌++◌, ℕ, Float}
use Rattle.refusals.specs.Lengths.{slopes_length, value_length}
use Rattle.refusals.specs.Rows.{up_from, IsLowest, lowest-row, room_row}
use Rattle.calls.specs.Rows.{record_rows, room-then, record-then}
use Rattle.lent_bytes.specs.SheetLists.{SheetLists}
use Rattle.objective_bytes.specs.ObjectiveCalls.{TaskLists}
use Rattle.objective_bytes.specs.Numbers.{task_rows, task-then, optional_rows, optional-last}
use Rattle.one_block_bytes.specs.OneBlockCalls.{entries_in, one_block_number}

pub one-block-number-lowest : (s : SheetLists) (t : TaskLists) (x : List Float) (value slopes rj rl rp : ℕ)
    → IsLowest
    (task_rows s t.goals t.history x
    (room_row value_length value ∷ room_row (slopes_length s.codes) slopes ∷ (record_rows (entries_in s) rj rl rp ++ optional_rows s t)))
    (one_block_number s t x value slopes rj rl rp)
unfolding one_block_number up_from
one-block-number-lowest s t x value slopes rj rl rp =
    lowest-row _ _ refl
    (task-then s t.goals t.history x _ _
    (room-then value_length value _ _
    (room-then (slopes_length s.codes) slopes _ _ (record-then (entries_in s) rj rl rp _ _ (optional-last s t)))))
