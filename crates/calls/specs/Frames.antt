-- frames and pose: their refusals.
use Rattle.std.specs.Prelude.{◌≡◌, List, ℕ, ◌≤◌, Float, length}
use Rattle.std.proofs.Common.{◌∙◌}
use Rattle.sheet.specs.Chain.{total}
use Rattle.refusals.specs.Lengths.{positions_length, rotations_length, ends_length, positions-most, rotations-most, ends-most}
use Rattle.refusals.specs.Lowest.{first_of, first-none, first-last}
use Rattle.refusals.specs.Refusal.{block_refusal, room_refusal}
use Rattle.refusals.specs.Passed.{room-passed, room-enough}

-- frames of block x into lists of p and r floats: 7, then 9
unfoldable pub frames_refusal : List ℕ → List ℕ → List Float → ℕ → ℕ → ℕ
frames_refusal ns cs x p r = first_of (block_refusal cs x) (first_of (room_refusal (positions_length ns) p) (room_refusal (rotations_length ns) r))

-- end poses of block x into a list of n floats: 7, then 9
unfoldable pub pose_refusal : List ℕ → List ℕ → List Float → ℕ → ℕ
pose_refusal ns cs x n = first_of (block_refusal cs x) (room_refusal (ends_length ns) n)

-- ---- laws: what an accepted call knows
pub frames-passed : (ns cs : List ℕ) (x : List Float) (p r : ℕ) → frames_refusal ns cs x p r ≡ 0
    → (block_refusal cs x ≡ 0) × (positions_length ns ≤ p) × (rotations_length ns ≤ r)
unfolding frames_refusal
frames-passed ns cs x p r e =
    let a = first-none _ _ e in
    let b = first-none _ _ a.1 in
    (a.0, room-passed _ p b.0, room-passed _ r b.1)

pub pose-passed : (ns cs : List ℕ) (x : List Float) (n : ℕ) → pose_refusal ns cs x n ≡ 0 → (block_refusal cs x ≡ 0) × (ends_length ns ≤ n)
unfolding pose_refusal
pose-passed ns cs x n e = let a = first-none _ _ e in (a.0, room-passed _ n a.1)

-- ---- laws: on lists with room for every sheet only the block is asked
module _ (ns cs : List ℕ) (x : List Float) (few : length ns ≤ 4) where
  pub frames-room : total ns ≤ 64 → frames_refusal ns cs x 204 288 ≡ block_refusal cs x
  unfolding frames_refusal
  frames-room h =
      first-last _ _ (first-last _ _ (room-enough _ 288 (rotations-most ns few h)) ∙ room-enough _ 204 (positions-most ns few h))

  pub pose-room : pose_refusal ns cs x 28 ≡ block_refusal cs x
  unfolding pose_refusal
  pose-room = first-last _ _ (room-enough _ 28 (ends-most ns few))
