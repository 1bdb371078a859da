-- The byte call of the one-block gradient: its number, and its record.
use Rattle.std.specs.Prelude.{◌≡◌, List, ℕ, Float}
use Rattle.lists.specs.Splice.{splice}
use Rattle.refusals.specs.Lengths.{slopes_length, value_length}
use Rattle.refusals.specs.Lowest.{first_of}
use Rattle.refusals.specs.Refusal.{links_of, room_refusal}
use Rattle.one_block.specs.Record.{entries_of, record_joints, record_links, record_poses}
use Rattle.calls.specs.OneBlock.{record_refusal}
use Rattle.lists.specs.Lent.{LentOutput, output_lent}
use Rattle.lent_bytes.specs.SheetLists.{SheetLists}
use Rattle.arm_bytes.specs.ArmCalls.{output_of, numbers_output_of}
use Rattle.objective_bytes.specs.ObjectiveCalls.{TaskLists, task_number, optional_number}

-- the record's entries
abbrev pub entries_in : SheetLists → ℕ
entries_in s = entries_of (links_of s.sizes) s.codes

-- 1 to 8, then 9 for any output, then 10 and 11; rooms are in floats, and in u16s for joints rj and links rl
unfoldable pub one_block_number : SheetLists → TaskLists → List Float → ℕ → ℕ → ℕ → ℕ → ℕ → ℕ
one_block_number s t x value slopes rj rl rp =
    first_of (task_number s t.goals t.history x)
    (first_of (room_refusal value_length value)
    (first_of (room_refusal (slopes_length s.codes) slopes) (first_of (record_refusal (entries_in s) rj rl rp) (optional_number s t))))

-- the record's three lists
unfoldable pub record_joints_in : SheetLists → List ℕ
record_joints_in s = record_joints (links_of s.sizes) s.codes

unfoldable pub record_links_in : SheetLists → List ℕ
record_links_in s = record_links (links_of s.sizes) s.codes

unfoldable pub record_poses_in : SheetLists → List Float → List Float
record_poses_in s x = record_poses (links_of s.sizes) s.codes s.floats x

-- the record's three lists at the fronts of three lists
abbrev pub RecordHeld : SheetLists → List Float → LentOutput ℕ → LentOutput ℕ → LentOutput Float → Type 0
RecordHeld s x joints links poses =
    (joints.exit.now ≡ splice (output_lent joints) 0 (record_joints_in s)) × (links.exit.now ≡ splice (output_lent links) 0 (record_links_in s)) × (poses.exit.now ≡ splice (output_lent poses) 0 (record_poses_in s x))

-- and as bytes in three outputs, after a call of number r
abbrev pub RecordWritten : ℕ → SheetLists → List Float → LentOutput ℕ → LentOutput ℕ → LentOutput ℕ → Type 0
RecordWritten r s x joints links poses =
    (joints.exit.now ≡ numbers_output_of r joints (record_joints_in s)) × (links.exit.now ≡ numbers_output_of r links (record_links_in s)) × (poses.exit.now ≡ output_of r poses (record_poses_in s x))
