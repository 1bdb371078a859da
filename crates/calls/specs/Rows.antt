-- The conditions of the calls on lent lists beside the sheet's and the state's: 7, then 9; and what comes behind them.
use Rattle.std.specs.Prelude.{◌≡◌, refl, List, [], ◌∷◌, ◌++◌, ℕ, Float}
use Rattle.std.proofs.Common.{ap, ◌∙◌}
use Rattle.refusals.specs.Lengths.{positions_length, rotations_length, ends_length, scratch_length, slopes_length, record_poses_length}
use Rattle.refusals.specs.Lowest.{first_of, first-assoc}
use Rattle.refusals.specs.Refusal.{block_refusal, room_refusal}
use Rattle.refusals.specs.Rows.{Row, first_row, block_row, room_row, block-row, room_row_lem, alone}
use Rattle.one_block.specs.Record.{entries_of}
use Rattle.calls.specs.Frames.{frames_refusal, pose_refusal}
use Rattle.calls.specs.AcceptedTask.{slopes_refusal}
use Rattle.calls.specs.OneBlock.{record_refusal, one_block_refusal}

abbrev pub frames_rows : List ℕ → List ℕ → List Float → ℕ → ℕ → List Row
frames_rows ns cs x p r = block_row cs x ∷ room_row (positions_length ns) p ∷ room_row (rotations_length ns) r ∷ []

abbrev pub pose_rows : List ℕ → List ℕ → List Float → ℕ → List Row
pose_rows ns cs x n = block_row cs x ∷ room_row (ends_length ns) n ∷ []

abbrev pub slopes_rows : List ℕ → List Float → ℕ → ℕ → List Row
slopes_rows cs x scratch slopes = block_row cs x ∷ room_row (scratch_length cs) scratch ∷ room_row (slopes_length cs) slopes ∷ []

abbrev pub record_rows : ℕ → ℕ → ℕ → ℕ → List Row
record_rows entries joints links poses = room_row entries joints ∷ room_row entries links ∷ room_row (record_poses_length entries) poses ∷ []

abbrev pub one_block_rows : List ℕ → List ℕ → List Float → ℕ → ℕ → ℕ → ℕ → List Row
one_block_rows ns cs x slopes record_joints record_links record_poses =
    block_row cs x ∷ room_row (slopes_length cs) slopes ∷ record_rows (entries_of ns cs) record_joints record_links record_poses

-- ---- laws
-- a block's number alone, and a room's
pub block-alone : (cs : List ℕ) (x : List Float) → block_refusal cs x ≡ first_row (block_row cs x ∷ [])
block-alone cs x = alone _ _ (block-row cs x [])

pub room-alone : (needed have : ℕ) → room_refusal needed have ≡ first_row (room_row needed have ∷ [])
room-alone needed have = alone _ _ (room_row_lem needed have [])

-- a block's number, a room's and a record's, and what comes behind it
pub block-then : (cs : List ℕ) (x : List Float) (n : ℕ) (rs : List Row) → n ≡ first_row rs → first_of (block_refusal cs x) n ≡ first_row (block_row cs x ∷ rs)
block-then cs x n rs e = ap (first_of (block_refusal cs x)) e ∙ block-row cs x rs

pub room-then : (needed have n : ℕ) (rs : List Row) → n ≡ first_row rs → first_of (room_refusal needed have) n ≡ first_row (room_row needed have ∷ rs)
room-then needed have n rs e = ap (first_of (room_refusal needed have)) e ∙ room_row_lem needed have rs

pub record-then : (entries joints links poses n : ℕ) (rs : List Row) → n ≡ first_row rs
    → first_of (record_refusal entries joints links poses) n ≡ first_row (record_rows entries joints links poses ++ rs)
unfolding record_refusal
record-then entries joints links poses n rs e =
    first-assoc _ _ n ∙ room-then entries joints _ _ (first-assoc _ _ n ∙ room-then entries links _ _ (room-then (record_poses_length entries) poses _ _ e))

-- the calls
pub frames-rows : (ns cs : List ℕ) (x : List Float) (p r : ℕ) → frames_refusal ns cs x p r ≡ first_row (frames_rows ns cs x p r)
unfolding frames_refusal
frames-rows ns cs x p r = block-then cs x _ _ (room-then (positions_length ns) p _ _ (room-alone (rotations_length ns) r))

pub pose-rows : (ns cs : List ℕ) (x : List Float) (n : ℕ) → pose_refusal ns cs x n ≡ first_row (pose_rows ns cs x n)
unfolding pose_refusal
pose-rows ns cs x n = block-then cs x _ _ (room-alone (ends_length ns) n)

pub slopes-rows : (cs : List ℕ) (x : List Float) (scratch slopes : ℕ) → slopes_refusal cs x scratch slopes ≡ first_row (slopes_rows cs x scratch slopes)
unfolding slopes_refusal
slopes-rows cs x scratch slopes = block-then cs x _ _ (room-then (scratch_length cs) scratch _ _ (room-alone (slopes_length cs) slopes))

pub one-block-rows : (ns cs : List ℕ) (x : List Float) (slopes rj rl rp : ℕ) → one_block_refusal ns cs x slopes rj rl rp ≡ first_row (one_block_rows ns cs x slopes rj rl rp)
unfolding one_block_refusal
one-block-rows ns cs x slopes rj rl rp =
    block-then cs x _ _ (room-then (slopes_length cs) slopes _ _ (alone _ _ (record-then (entries_of ns cs) rj rl rp _ [] refl)))
