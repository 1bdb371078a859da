-- A byte list that is ragged, or longer than any that is taken, is refused with that list's number. Up to 8 it is the number that load gets for the sheet's
-- lists (arm_bytes, Ragged), and the objective for joints, history and goals (objective_bytes, Ragged); a ragged output 9; weights 10, tools 11. Lower numbers come first, as ever.
use Rattle.std.specs.Prelude.{◌≡◌, List, ℕ, suc, ◌*◌, ◌%◌, ◌≤◌, Float, length}
use Rattle.std.proofs.Common.{◌∙◌, arith}
use Rattle.sheet.specs.Chain.{joints, joint-le, joint-last}
use Rattle.refusals.specs.Lowest.{first-zero, first-is, first-none}
use Rattle.refusals.specs.Lengths.{slopes_length, value_length}
use Rattle.refusals.specs.Refusal.{room_refusal}
use Rattle.refusals.specs.Passed.{room-behind}
use Rattle.one_block.specs.Record.{entries_of}
use Rattle.calls.specs.OneBlock.{record_refusal}
use Rattle.lent_bytes.specs.Lent.{room_in, number_room_in}
use Rattle.lent_bytes.specs.SheetLists.{SheetLists}
use Rattle.arm_bytes.specs.ArmCalls.{load_number}
use Rattle.arm_bytes.specs.Ragged.{after, ragged-output, ragged-numbers, moving}
use Rattle.objective_bytes.specs.ObjectiveCalls.{TaskLists, task_number, optional_number}
use Rattle.one_block_bytes.specs.OneBlockCalls.{entries_in, one_block_number}

-- a call that is refused with one of 1 to 8
module _ (s : SheetLists) (t : TaskLists) (x : List Float) (value slopes rj rl rp k : ℕ) where
  pub one-block-refused : task_number s t.goals t.history x ≡ suc k → one_block_number s t x value slopes rj rl rp ≡ suc k
  unfolding one_block_number
  one-block-refused e = first-is _ _ k e

  pub one-block-sheet-refused : load_number s ≡ suc k → one_block_number s t x value slopes rj rl rp ≡ suc k
  unfolding task_number
  one-block-sheet-refused e = one-block-refused (first-is _ _ k e)

-- on input that is taken
module _ (s : SheetLists) (t : TaskLists) (x : List Float) (q : task_number s t.goals t.history x ≡ 0) where
  jointed : 2 ≤ joints s.codes
  unfolding task_number
  jointed = moving s (first-none _ _ q).0

  -- the record has at least one entry for each link
  entries-some : 1 ≤ entries_in s
  unfolding entries_of
  entries-some = omega (arith, jointed, joint-last s.codes, joint-le s.codes (length s.codes))

  -- value and slopes come first, and have the same number
  record-refused : (value slopes rj rl rp : ℕ) → record_refusal (entries_in s) rj rl rp ≡ 9 → one_block_number s t x value slopes rj rl rp ≡ 9
  unfolding one_block_number
  record-refused value slopes rj rl rp e = first-zero _ _ q ∙ room-behind 1 value _ (room-behind (joints s.codes) slopes _ (first-is _ _ 8 e))

  -- an output of floats of n bytes
  module _ (n : ℕ) (m : n % 8 ≡ 0 → ⊥) where
    pub one-block-ragged-value : (slopes rj rl rp : ℕ) → one_block_number s t x (room_in n) slopes rj rl rp ≡ 9
    unfolding one_block_number
    one-block-ragged-value slopes rj rl rp = after _ _ _ 8 q (ragged-output 1 n (omega arith) m)

    pub one-block-ragged-slopes : (value rj rl rp : ℕ) → one_block_number s t x value (room_in n) rj rl rp ≡ 9
    unfolding one_block_number
    one-block-ragged-slopes value rj rl rp =
        first-zero _ _ q ∙ room-behind 1 value _ (first-is _ _ 8 (ragged-output (joints s.codes) n (omega (arith, jointed)) m))

    pub one-block-ragged-record-poses : (value slopes rj rl : ℕ) → one_block_number s t x value slopes rj rl (room_in n) ≡ 9
    unfolding record_refusal
    one-block-ragged-record-poses value slopes rj rl =
        record-refused value slopes rj rl (room_in n)
        (room-behind (entries_in s) rj _ (room-behind (entries_in s) rl _ (ragged-output (7 * entries_in s) n (omega (arith, entries-some)) m)))

  -- an output of u16s of n bytes
  module _ (n : ℕ) (m : n % 2 ≡ 0 → ⊥) where
    pub one-block-ragged-record-joints : (value slopes rl rp : ℕ) → one_block_number s t x value slopes (number_room_in n) rl rp ≡ 9
    unfolding record_refusal
    one-block-ragged-record-joints value slopes rl rp =
        record-refused value slopes (number_room_in n) rl rp (first-is _ _ 8 (ragged-numbers (entries_in s) n entries-some m))

    pub one-block-ragged-record-links : (value slopes rj rp : ℕ) → one_block_number s t x value slopes rj (number_room_in n) rp ≡ 9
    unfolding record_refusal
    one-block-ragged-record-links value slopes rj rp =
        record-refused value slopes rj (number_room_in n) rp
        (room-behind (entries_in s) rj _ (first-is _ _ 8 (ragged-numbers (entries_in s) n entries-some m)))

  -- weights or tools that are refused, where nothing else is
  pub one-block-refused-optional : (value slopes rj rl rp : ℕ) → room_refusal value_length value ≡ 0 → room_refusal (slopes_length s.codes) slopes ≡ 0
      → record_refusal (entries_in s) rj rl rp ≡ 0 → one_block_number s t x value slopes rj rl rp ≡ optional_number s t
  unfolding one_block_number
  one-block-refused-optional value slopes rj rl rp v d r = first-zero _ _ q ∙ first-zero _ _ v ∙ first-zero _ _ d ∙ first-zero _ _ r
