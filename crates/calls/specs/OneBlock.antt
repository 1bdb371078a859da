-- The one-block gradient's refusals.
use Rattle.std.specs.Prelude.{◌≡◌, List, ℕ, ◌≤◌, Float, length}
use Rattle.std.proofs.Common.{arith}
use Rattle.sheet.specs.Chain.{total, joints}
use Rattle.lists.specs.Lent.{LentOutput}
use Rattle.refusals.specs.Lengths.{slopes_length, record_poses_length}
use Rattle.refusals.specs.Lowest.{first_of, first-none}
use Rattle.refusals.specs.Refusal.{block_refusal, room_refusal}
use Rattle.refusals.specs.Passed.{block-passed, room-passed}
use Rattle.one_block.specs.Record.{record_joints, record_links, record_poses, entries_of, Room}
use Rattle.one_block.specs.Laws.{below-most}
use Rattle.calls.specs.AcceptedTask.{FrontIfTaken, ready_of}

-- a record of so many entries into lists of so many joints, links and floats of poses: 9
unfoldable pub record_refusal : ℕ → ℕ → ℕ → ℕ → ℕ
record_refusal entries joints links poses = first_of (room_refusal entries joints) (first_of (room_refusal entries links) (room_refusal (record_poses_length entries) poses))

-- the gradient of block x into a list of so many slopes, with its record: 7, then 9
unfoldable pub one_block_refusal : List ℕ → List ℕ → List Float → ℕ → ℕ → ℕ → ℕ → ℕ
one_block_refusal ns cs x slopes record_joints record_links record_poses =
    first_of (block_refusal cs x) (first_of (room_refusal (slopes_length cs) slopes) (record_refusal (entries_of ns cs) record_joints record_links record_poses))

-- the record's lists at exit, of a call with refusal number n
abbrev pub RecordIfTaken : ℕ → LentOutput ℕ → LentOutput ℕ → LentOutput Float → List ℕ → List ℕ → List Float → List Float → Type 0
RecordIfTaken n rj rl rp ns cs gs x = FrontIfTaken n rj (record_joints ns cs) × FrontIfTaken n rl (record_links ns cs) × FrontIfTaken n rp (record_poses ns cs gs x)

-- ---- laws
record-passed : (n : ℕ) (rj rl : List ℕ) (rp : List Float) → record_refusal n (length rj) (length rl) (length rp) ≡ 0 → Room rj rl rp n
unfolding record_refusal
record-passed n rj rl rp e =
    let a = first-none _ _ e in
    let b = first-none _ _ a.1 in
    record { joints-room = room-passed _ _ a.0; links-room = room-passed _ _ b.0; frames-room = room-passed _ _ b.1 }

-- what an accepted call knows
pub one-block-passed : (ns cs : List ℕ) (x slopes : List Float) (rj rl : List ℕ) (rp : List Float)
    → one_block_refusal ns cs x (length slopes) (length rj) (length rl) (length rp) ≡ 0
    → (block_refusal cs x ≡ 0) × (length x ≤ length slopes) × Room rj rl rp (entries_of ns cs)
unfolding one_block_refusal
one-block-passed ns cs x slopes rj rl rp e =
    let a = first-none _ _ e in
    let b = first-none _ _ a.1 in
    let n : length x ≡ joints cs = block-passed cs x a.0 in
    (a.0, omega (arith, n, room-passed (slopes_length cs) (length slopes) b.0), record-passed (entries_of ns cs) rj rl rp b.1)

-- no more entries than 64 for each of 64 links, and the first walk
pub entries-most : (ns cs : List ℕ) → total ns ≡ length cs → length cs ≤ 64 → entries_of ns cs ≤ 4160
unfolding entries_of
entries-most ns cs w h = omega (arith, below-most ns cs (length cs) (omega arith) (omega arith))

-- what an accepted call on one block knows
pub ruleset tasks = (ready_of, one-block-passed)
