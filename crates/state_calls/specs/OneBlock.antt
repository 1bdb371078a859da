-- The gradient on one block, by the state: its number, and its record.
use Rattle.std.specs.Prelude.{Bool, List, ℕ, Float}
use Rattle.lists.specs.Lent.{LentOutput}
use Rattle.one_block.specs.Record.{record_joints, record_links, record_poses}
use Rattle.calls.specs.OneBlock.{one_block_refusal, RecordIfTaken}
use Rattle.state_calls.specs.declared.state.State.{State}
use Rattle.state_calls.specs.State.{links_used, codes_used, floats_used}
use Rattle.state_calls.specs.StoredTask.{after_state}
use Rattle.state_calls.specs.Objective.{link_floats}

-- 20, 21, 22, then 7, then 9, lent lists of so many slopes, joints, links and floats of poses
unfoldable pub one_block_stored : List ℕ → List ℕ → Bool → Bool → List Float → ℕ → ℕ → ℕ → ℕ → ℕ
one_block_stored ss cs goals started x slopes rj rl rp = after_state ss cs goals started (one_block_refusal (links_used ss) (codes_used ss cs) x slopes rj rl rp)

abbrev pub one_block_number_of : State → List Float → ℕ → ℕ → ℕ → ℕ → ℕ
one_block_number_of s x slopes rj rl rp = one_block_stored s.arms.sizes s.arms.codes s.party.has_goals s.party.started x slopes rj rl rp

-- the record's three lists
abbrev pub record_joints_of : State → List ℕ
record_joints_of s = record_joints (links_used s.arms.sizes) (codes_used s.arms.sizes s.arms.codes)

abbrev pub record_links_of : State → List ℕ
record_links_of s = record_links (links_used s.arms.sizes) (codes_used s.arms.sizes s.arms.codes)

abbrev pub record_poses_of : State → List Float → List Float
record_poses_of s x = record_poses (links_used s.arms.sizes) (codes_used s.arms.sizes s.arms.codes) (link_floats s) x

-- and these lists at exit, of a call with number n
abbrev pub RecordStored : ℕ → LentOutput ℕ → LentOutput ℕ → LentOutput Float → List ℕ → List ℕ → List Float → List Float → Type 0
RecordStored n rj rl rp ss cs gs x = RecordIfTaken n rj rl rp (links_used ss) (codes_used ss cs) (floats_used ss gs) x
