-- What a party keeps over the arms: goals, start, history. A refusal keeps the old state.
use Rattle.std.specs.Prelude.{◌≡◌, Bool, true, false, List, ℕ, ◌≤◌, Float, length}
use Rattle.std.proofs.Common.{arith}
use Rattle.lists.specs.Splice.{splice}
use Rattle.spacetime.specs.Frames.{ends_of}
use Rattle.refusals.specs.Passed.{shape-passed, goals-passed, block-passed}
use Rattle.groove.specs.Vars.{padded, reset_of, update_of}
use Rattle.state_calls.specs.declared.state.Party.{Party}
use Rattle.state_calls.specs.declared.state.State.{State}
use Rattle.state_calls.specs.State.{zeros, links_used, stored}
use Rattle.state_calls.specs.Load.{Outcome, outcome_of}
use Rattle.state_calls.specs.StoredSheet.{block_stored, goals_stored, update_stored, there}
use Rattle.state_calls.specs.Arms.{poses_of}

-- another party over the same arms and weights
abbrev with_party : State → Party → State
with_party s p = record { arms = s.arms; weights = s.weights; party = p }

-- goals, zeros behind them
unfoldable pub with_goals : Party → List Float → Party
with_goals p goals = record {
  has_goals = true;
  goals = splice (zeros 52) 0 goals;
  started = p.started;
  history = p.history;
  start_poses = p.start_poses;
}

-- set goals: 20, then 8
unfoldable pub set_goals_of : State → List Float → Outcome
set_goals_of s goals = outcome_of (goals_stored s.arms.sizes s.arms.codes goals) s (with_party s (with_goals s.party goals))

-- a start: the history is the block four times, and the end poses are kept, zeros behind them
unfoldable pub with_start : Party → List Float → List Float → Party
with_start p x ends = record {
  has_goals = p.has_goals;
  goals = p.goals;
  started = true;
  history = reset_of (padded x) (length x);
  start_poses = splice (zeros 28) 0 ends;
}

-- reset: 20, then 7
unfoldable pub reset_state_of : State → List Float → Outcome
reset_state_of s x =
    outcome_of (block_stored s.arms.sizes s.arms.codes x) s
    (with_party s (with_start s.party x (ends_of (links_used s.arms.sizes) s.arms.tools (poses_of s x))))

-- one block more: the others move one back
unfoldable pub with_block : Party → List Float → Party
with_block p x = record {
  has_goals = p.has_goals;
  goals = p.goals;
  started = p.started;
  history = update_of p.history (padded x);
  start_poses = p.start_poses;
}

-- update: 20, then 22, then 7
unfoldable pub update_state_of : State → List Float → Outcome
update_state_of s x =
    outcome_of (update_stored s.arms.sizes s.arms.codes s.party.started x) s (with_party s (with_block s.party x))

-- ---- laws: what is accepted fits the arrays
pub goals-fit : (ss cs : List ℕ) (goals : List Float) → goals_stored ss cs goals ≡ 0 → length goals ≤ 52
unfolding goals_stored
goals-fit ss cs goals e =
    let t = there ss cs _ e in
    omega (arith, goals-passed _ goals t.1, (stored ss cs t.0).few)

pub block-fits : (ss cs : List ℕ) (x : List Float) → block_stored ss cs x ≡ 0 → length x ≤ 16
unfolding block_stored
block-fits ss cs x e =
    let t = there ss cs _ e in
    omega (arith, block-passed _ x t.1, (shape-passed _ _ _ (stored ss cs t.0).shape).moving)

pub update-fits : (ss cs : List ℕ) (started : Bool) (x : List Float) → update_stored ss cs started x ≡ 0 → length x ≤ 16
unfolding update_stored block_stored
update-fits ss cs true x e = block-fits ss cs x e
update-fits ss cs false x e = let t = there ss cs _ e in absurd (omega (arith, t.1))
