-- With weights and tools left out, or refused by neither 10 nor 11, the byte call's number is the one before there were such lists. (Its value and its slopes
-- are those of objective_bytes, LeftOut and Weights; its record has neither.)
use Rattle.std.specs.Prelude.{◌≡◌, List, ℕ, Float}
use Rattle.std.proofs.Common.{ap}
use Rattle.refusals.specs.Lengths.{slopes_length, value_length}
use Rattle.refusals.specs.Lowest.{first_of, first-last}
use Rattle.refusals.specs.Refusal.{room_refusal}
use Rattle.calls.specs.OneBlock.{record_refusal}
use Rattle.lent_bytes.specs.SheetLists.{SheetLists}
use Rattle.objective_bytes.specs.ObjectiveCalls.{TaskLists, task_number, optional_number}
use Rattle.one_block_bytes.specs.OneBlockCalls.{entries_in, one_block_number}

pub one-block-number-left-out : (s : SheetLists) (t : TaskLists) (x : List Float) → optional_number s t ≡ 0 → (value slopes rj rl rp : ℕ)
    → one_block_number s t x value slopes rj rl rp
    ≡ first_of (task_number s t.goals t.history x)
    (first_of (room_refusal value_length value) (first_of (room_refusal (slopes_length s.codes) slopes) (record_refusal (entries_in s) rj rl rp)))
unfolding one_block_number
one-block-number-left-out s t x e value slopes rj rl rp =
    ap (λ (n : ℕ). first_of (task_number s t.goals t.history x) (first_of (room_refusal value_length value) (first_of (room_refusal (slopes_length s.codes) slopes) n)))
    (first-last _ _ e)
