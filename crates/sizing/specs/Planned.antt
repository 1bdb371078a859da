-- What a plan promises of lent lists: with those of the planned lengths no call answers 9 for them; one entry fewer in any of them, and it does, where no
-- earlier refusal applies.
use Rattle.std.specs.Prelude.{◌≡◌, refl, true, false, ◌⊎◌, List, ℕ, ◌+◌, ◌*◌, ◌≤◌, ◌<◌, Float, length}
use Rattle.std.proofs.Math.Path.{ap}
use Rattle.std.proofs.Common.{◌∙◌, arith}
use Rattle.std.proofs.Math.Logic.{⊎_elim}
use Rattle.task.specs.declared.picks.Picks.{Picks}
use Rattle.refusals.specs.Lengths.{slopes_length, record_poses_length}
use Rattle.refusals.specs.Lowest.{first_of, first-zero, first-last, first-is}
use Rattle.refusals.specs.Refusal.{block_refusal, room_refusal}
use Rattle.refusals.specs.Passed.{room-enough, room-short, room-behind}
use Rattle.self_collision.specs.Pairs.{chain_lengths, lengths-count}
use Rattle.objective_master.specs.Count.{strict-shorter}
use Rattle.calls.specs.Frames.{frames_refusal}
use Rattle.calls.specs.OneBlock.{record_refusal, one_block_refusal}
use Rattle.calls.specs.Strict.{source_objectives, strict_objectives, source-list, strict-list}
use Rattle.sizing.specs.declared.plan.Plan.{Plan}
use Rattle.sizing.specs.Sizing.{plan_of}

-- lists of p and r floats have room for the frames; one of them has not
pub record FramesRoom (plan : Plan) (p r : ℕ) : Type 0 where
  pub positions : plan.positions ≤ p
  pub rotations : plan.rotations ≤ r

abbrev pub FramesShort : Plan → ℕ → ℕ → Type 0
FramesShort plan p r = (p < plan.positions) ⊎ (r < plan.rotations)

-- lists of so many joints, links and floats of poses have room for the record; one of them has not
pub record RecordRoom (plan : Plan) (joints links poses : ℕ) : Type 0 where
  pub of-joints : plan.entries ≤ joints
  pub of-links : plan.entries ≤ links
  pub of-poses : record_poses_length plan.entries ≤ poses

abbrev pub RecordShort : Plan → ℕ → ℕ → ℕ → Type 0
RecordShort plan joints links poses = (joints < plan.entries) ⊎ ((links < plan.entries) ⊎ (poses < record_poses_length plan.entries))

-- ---- theorems
-- the record alone, of n entries
pub record-room : (plan : Plan) (rj rl rp : ℕ) → RecordRoom plan rj rl rp → record_refusal plan.entries rj rl rp ≡ 0
unfolding record_refusal
record-room plan rj rl rp h =
    first-zero _ _ (room-enough _ rj h.of-joints) ∙ first-zero _ _ (room-enough _ rl h.of-links) ∙ room-enough _ rp h.of-poses

pub record-short : (plan : Plan) (rj rl rp : ℕ) → RecordShort plan rj rl rp → record_refusal plan.entries rj rl rp ≡ 9
unfolding record_refusal
record-short plan rj rl rp h =
    let n = plan.entries in
    ⊎_elim (λ (j : rj < n). first-is _ _ 8 (room-short n rj j))
    (λ (more : (rl < n) ⊎ (rp < record_poses_length n)).
    room-behind n rj _
    (⊎_elim (λ (l : rl < n). first-is _ _ 8 (room-short n rl l)) (λ (p : rp < record_poses_length n). room-behind n rl _ (room-short _ rp p)) more))
    h

module _ (picks : Picks) (ns cs : List ℕ) (x : List Float) where
  -- frames: with the planned lengths only the block is asked
  pub frames-planned : (p r : ℕ) → FramesRoom (plan_of picks ns cs) p r → frames_refusal ns cs x p r ≡ block_refusal cs x
  unfolding frames_refusal plan_of
  frames-planned p r h = first-last _ _ (first-zero _ _ (room-enough _ p h.positions) ∙ room-enough _ r h.rotations)

  pub frames-short : (p r : ℕ) → block_refusal cs x ≡ 0 → FramesShort (plan_of picks ns cs) p r → frames_refusal ns cs x p r ≡ 9
  unfolding frames_refusal plan_of
  frames-short p r q h =
      first-zero _ _ q
      ∙ ⊎_elim (λ (a : p < (plan_of picks ns cs).positions). first-is _ _ 8 (room-short _ p a)) (λ (b : r < (plan_of picks ns cs).rotations). room-behind _ p _ (room-short _ r b)) h

  -- the gradient on one block: only the block and the slopes are asked
  pub one-block-planned : (slopes rj rl rp : ℕ) → RecordRoom (plan_of picks ns cs) rj rl rp
      → one_block_refusal ns cs x slopes rj rl rp ≡ first_of (block_refusal cs x) (room_refusal (slopes_length cs) slopes)
  unfolding one_block_refusal plan_of
  one-block-planned slopes rj rl rp h =
      ap (first_of (block_refusal cs x)) (first-last _ _ (record-room (plan_of picks ns cs) rj rl rp h))

  pub one-block-short : (slopes rj rl rp : ℕ) → block_refusal cs x ≡ 0 → RecordShort (plan_of picks ns cs) rj rl rp → one_block_refusal ns cs x slopes rj rl rp ≡ 9
  unfolding one_block_refusal plan_of
  one-block-short slopes rj rl rp q h = first-zero _ _ q ∙ room-behind _ slopes _ (record-short (plan_of picks ns cs) rj rl rp h)

-- under the strict pick a sheet has four objectives fewer for each chain, and the lists' lengths are the same
pub record FourFewer (chains : ℕ) (strict tolerance : Plan) : Type 0 where
  pub objectives : strict.objectives + 4 * chains ≡ tolerance.objectives
  pub positions : strict.positions ≡ tolerance.positions
  pub rotations : strict.rotations ≡ tolerance.rotations
  pub entries : strict.entries ≡ tolerance.entries

pub strict-planned : (ns cs : List ℕ) → FourFewer (length ns) (plan_of (record { strict = true }) ns cs) (plan_of (record { strict = false }) ns cs)
unfolding plan_of
strict-planned ns cs =
    record { objectives = omega (arith, strict-shorter (chain_lengths ns cs), lengths-count ns cs); positions = refl; rotations = refl; entries = refl }

-- not picked, a plan counts the source's own list, as it did before there was a pick; picked, the strict one
pub source-list-planned : (picks : Picks) (ns cs : List ℕ) → picks.strict ≡ false → (plan_of picks ns cs).objectives ≡ length (source_objectives (chain_lengths ns cs))
unfolding plan_of
source-list-planned picks ns cs e = ap length (source-list picks (chain_lengths ns cs) e)

pub strict-list-planned : (picks : Picks) (ns cs : List ℕ) → picks.strict ≡ true → (plan_of picks ns cs).objectives ≡ length (strict_objectives (chain_lengths ns cs))
unfolding plan_of
strict-list-planned picks ns cs e = ap length (strict-list picks (chain_lengths ns cs) e)
