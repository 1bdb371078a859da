-- `one_block_refusal` meets its contract: what the task's sheet says of the entries.
use mathlib.Core.Path.{sym}
use native.Mathlib.Omega.{arith}
use Rattle.lent_bytes.specs.SheetLists.{sheet_with}
use Rattle.one_block_bytes.specs.OneBlockLaws.{task-counted}
use Rattle.one_block_bytes.proofs.one_block_lists.one_block_refusal.Goals as goal

pub entries-requires : goal.entries-requires
entries-requires c =
    let a = c.args in
    task-counted (sheet_with a.sizes.now a.codes.now a.floats.now a.limits.now) _ _ _ (sym c.in_ok-task_refusal.ensures)

pub record_refusal-requires : goal.record_refusal-requires
record_refusal-requires c =
    let a = c.args in
    let counted = task-counted (sheet_with a.sizes.now a.codes.now a.floats.now a.limits.now) _ _ _ (sym c.in_ok-task_refusal.ensures) in
    omega (arith, c.entries.ensures, counted.entries)
