-- What travels together: one list of floats, each part at a fixed place. In use of a part is as much as there are chains or joints.
use Rattle.std.specs.Prelude.{◌≡◌, List, ℕ, ◌+◌, ◌-◌, ◌*◌, ◌≤◌, Float, length, take, drop}
use native.Mathlib.Omega.{arith}
use Rattle.std.proofs.Common.{length-take, length-drop}
use Rattle.lists.specs.Lent.{LentList, lent}
use Rattle.sheet.specs.Chain.{joints}
use Rattle.task.specs.declared.picks.Picks.{Picks}

-- n floats from a place on
unfoldable pub part : ℕ → ℕ → List Float → List Float
part at n task = take n (drop at task)

-- the parts, for c chains and n joints
abbrev pub weights_of : List Float → List Float
weights_of task = part 0 8 task

abbrev pub limits_of : ℕ → List Float → List Float
limits_of n task = part 8 (2 * n) task

abbrev pub goals_of : ℕ → List Float → List Float
goals_of c task = part 40 (13 * c) task

abbrev pub xopt_of : ℕ → List Float → List Float
xopt_of n task = part 92 n task

abbrev pub prev_state_of : ℕ → List Float → List Float
prev_state_of n task = part 108 n task

abbrev pub prev_state2_of : ℕ → List Float → List Float
prev_state2_of n task = part 124 n task

abbrev pub tools_of : ℕ → List Float → List Float
tools_of c task = part 140 (8 * c) task

-- where the last part ends
abbrev pub task_length : ℕ
task_length = 172

-- what the objectives look at beside poses and joints: links per chain, codes, weights, limits, goals, the three newest joint blocks of the history, tools, and what the caller picked
pub record Given : Type 0 where
  pub counts : List ℕ
  pub codes : List ℕ
  pub weights : List Float
  pub limits : List Float
  pub goals : List Float
  pub xopt : List Float
  pub prev_state : List Float
  pub prev_state2 : List Float
  pub tools : List Float
  pub picks : Picks

-- of the list
unfoldable pub given_of : List ℕ → List ℕ → List Float → Picks → Given
given_of ns cs task picks =
    record {
      counts = ns;
      codes = cs;
      weights = weights_of task;
      limits = limits_of (joints cs) task;
      goals = goals_of (length ns) task;
      xopt = xopt_of (joints cs) task;
      prev_state = prev_state_of (joints cs) task;
      prev_state2 = prev_state2_of (joints cs) task;
      tools = tools_of (length ns) task;
      picks = picks;
    }

-- ---- of a function's parameters
abbrev pub given_in : {X Y Z : Type 0} → LentList ℕ X → LentList ℕ Y → LentList Float Z → Picks → Given
given_in counts codes task picks = given_of (lent counts) (lent codes) (lent task) picks

-- ---- laws
module _ (at n : ℕ) (task : List Float) where
  pub part_length : at + n ≤ length task → length (part at n task) ≡ n
  unfolding part
  part_length h = simp (length-take, length-drop) (omega arith)

  -- as code takes it, `&task[at..at + n]`
  pub part-range : take (at + n - at) (drop at task) ≡ part at n task
  unfolding part
  part-range = let e : at + n - at ≡ n = omega arith in rw e
