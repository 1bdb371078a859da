-- What loading and setting a tool do to the rest of the state: laws on `load_of` and `with_tool`.
use Rattle.std.specs.Prelude.{◌≡◌, List, ℕ, Float}
use Rattle.std.proofs.Math.Path.{refl}
use Rattle.spacetime.specs.Frames.{positions_of, rotations_of}
use Rattle.refusals.specs.Refusal.{load_refusal}
use Rattle.calls.specs.Tools.{NoTool, zeros-none}
use Rattle.state_calls.specs.declared.state.State.{State}
use Rattle.state_calls.specs.State.{links_used}
use Rattle.state_calls.specs.Load.{arms_of, outcome_of, outcome-keeps, load_of}
use Rattle.state_calls.specs.Arms.{poses_of, frames_number_of, pose_number_of, manipulability_number_of, manipulability_value_of}
use Rattle.state_calls.specs.Party.{set_goals_of, reset_state_of, update_state_of}
use Rattle.state_calls.specs.Objective.{objective_number_of, gradient_number_of}
use Rattle.state_calls.specs.OneBlock.{one_block_number_of, record_joints_of, record_links_of, record_poses_of}
use Rattle.state_calls.specs.Tools.{arms_with_tool, with_tool, set_tool_number_of, set_tool_of, SameSheet}

-- ---- where there is no tool
module _ (s : State) (sizes codes : List ℕ) (floats limits : List Float) where
  -- nor after an accepted load
  pub load-clears-tools : load_refusal sizes codes floats limits ≡ 0 → NoTool (load_of s sizes codes floats limits).state.arms.tools
  unfolding load_of outcome_of arms_of
  load-clears-tools e = rw e (zeros-none 32)

-- ---- setting a tool leaves all else alone, accepted or refused
module _ (s : State) (c : ℕ) (tool : List Float) where
  abbrev t : State
  t = (set_tool_of s c tool).state

  -- goals, history and start poses
  pub set-tool-keeps-party : t.party ≡ s.party
  unfolding set_tool_of with_tool
  set-tool-keeps-party = outcome-keeps (λ u. u.party) _ s _ refl

  -- weights
  pub set-tool-keeps-weights : t.weights ≡ s.weights
  unfolding set_tool_of with_tool
  set-tool-keeps-weights = outcome-keeps (λ u. u.weights) _ s _ refl

  -- the sheet and its limits
  pub set-tool-keeps-sheet : SameSheet t.arms s.arms
  unfolding set_tool_of with_tool arms_with_tool
  set-tool-keeps-sheet = record {
    sizes = outcome-keeps (λ u. u.arms.sizes) _ s _ refl;
    codes = outcome-keeps (λ u. u.arms.codes) _ s _ refl;
    floats = outcome-keeps (λ u. u.arms.floats) _ s _ refl;
    limits = outcome-keeps (λ u. u.arms.limits) _ s _ refl;
  }

  abbrev same : SameSheet t.arms s.arms
  same = set-tool-keeps-sheet

  -- so frames are as they were: their number, positions and rotations
  pub set-tool-keeps-frames : (x : List Float) (p r : ℕ) → (frames_number_of t x p r ≡ frames_number_of s x p r)
      × (positions_of (links_used t.arms.sizes) (poses_of t x) ≡ positions_of (links_used s.arms.sizes) (poses_of s x))
      × (rotations_of (links_used t.arms.sizes) (poses_of t x) ≡ rotations_of (links_used s.arms.sizes) (poses_of s x))
  set-tool-keeps-frames x p r = (rw (same.sizes, same.codes), rw (same.sizes, same.codes, same.floats), rw (same.sizes, same.codes, same.floats))

  -- and manipulability: its number and value
  pub set-tool-keeps-manipulability : (x : List Float) → (manipulability_number_of t x ≡ manipulability_number_of s x) × (manipulability_value_of t x ≡ manipulability_value_of s x)
  set-tool-keeps-manipulability x = (rw (same.sizes, same.codes), rw (same.sizes, same.codes, same.floats))

  -- and the one-block gradient's record
  pub set-tool-keeps-record : (x : List Float) → (record_joints_of t ≡ record_joints_of s) × (record_links_of t ≡ record_links_of s) × (record_poses_of t x ≡ record_poses_of s x)
  set-tool-keeps-record x = (rw (same.sizes, same.codes), rw (same.sizes, same.codes), rw (same.sizes, same.codes, same.floats))

  -- so are the numbers of the calls that look at tools
  pub set-tool-keeps-pose : (x : List Float) (n : ℕ) → pose_number_of t x n ≡ pose_number_of s x n
  set-tool-keeps-pose x n = rw (same.sizes, same.codes)

  pub set-tool-keeps-objective : (x : List Float) → objective_number_of t x ≡ objective_number_of s x
  set-tool-keeps-objective x = rw (same.sizes, same.codes, set-tool-keeps-party)

  pub set-tool-keeps-gradient : (x : List Float) (scratch slopes : ℕ) → gradient_number_of t x scratch slopes ≡ gradient_number_of s x scratch slopes
  set-tool-keeps-gradient x scratch slopes = rw (same.sizes, same.codes, set-tool-keeps-party)

  pub set-tool-keeps-one-block : (x : List Float) (slopes rj rl rp : ℕ) → one_block_number_of t x slopes rj rl rp ≡ one_block_number_of s x slopes rj rl rp
  set-tool-keeps-one-block x slopes rj rl rp = rw (same.sizes, same.codes, set-tool-keeps-party)

  -- and of those that change the state; loading and setting weights look at their lists alone
  pub set-tool-keeps-changes : (x : List Float) → ((set_goals_of t x).number ≡ (set_goals_of s x).number) × ((reset_state_of t x).number ≡ (reset_state_of s x).number)
      × ((update_state_of t x).number ≡ (update_state_of s x).number) × ((k : ℕ) → set_tool_number_of t k x ≡ set_tool_number_of s k x)
  unfolding set_goals_of reset_state_of update_state_of outcome_of
  set-tool-keeps-changes x = (
    rw (same.sizes, same.codes),
    rw (same.sizes, same.codes),
    rw (same.sizes, same.codes, set-tool-keeps-party),
    λ k. rw (same.sizes, same.codes),
  )
