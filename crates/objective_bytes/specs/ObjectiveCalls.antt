-- The byte calls on the objective: their numbers and what they write. They keep no state, so sheet, goals, history, weights and tools are lent each time.
use Rattle.std.specs.Prelude.{not, List, [], ◌∷◌, ℕ, ◌*◌, eqb, Float, length, take}
use Rattle.lists.specs.Lent.{LentList, lent}
use Rattle.sheet.specs.Chain.{joints}
use Rattle.task.specs.declared.picks.Picks.{Picks}
use Rattle.task.specs.Task.{part, Given}
use Rattle.refusals.specs.Lengths.{scratch_length, slopes_length, value_length}
use Rattle.refusals.specs.Lowest.{first_of}
use Rattle.refusals.specs.Refusal.{chains_of, links_of, block_refusal, history_refusal, goals_refusal, room_refusal, weights_refusal}
use Rattle.objective_master.specs.Weights.{in_force}
use Rattle.gradient.specs.Gradient.{value_at, slopes_of}
use Rattle.gradient.specs.declared.slopes.Rule.{Rule}
use Rattle.gradient.specs.declared.slopes.Rule.TheVariants.{EachLoss, WeightedSum}
use Rattle.lent_bytes.specs.Lent.{floats_in}
use Rattle.lent_bytes.specs.SheetLists.{SheetLists, goals_from, history_from}
use Rattle.arm_bytes.specs.ArmCalls.{load_number, tools_number}

-- ---- what the calls are lent beside the sheet and the joints
-- weights as bytes; a ragged list, and one of more than eight, has no floats, which are not eight
abbrev pub weights_from : List ℕ → List Float
weights_from weights = floats_in 8 weights

-- the weights in force: a list without a byte is none loaded
unfoldable pub in_force_from : List ℕ → List Float
in_force_from weights = in_force (not (eqb (length weights) 0)) (weights_from weights)

-- goals, a history of four joint blocks, the weights in force, and the tools of four chains
pub record TaskLists : Type 0 where
  pub goals : List Float
  pub history : List Float
  pub weights : List Float
  pub tools : List Float

abbrev pub task_with : List Float → List Float → List Float → List Float → TaskLists
task_with goals history weights tools = record { goals = goals; history = history; weights = weights; tools = tools }

-- as decoded lists
abbrev pub task_of : {X Y Z W : Type 0} → LentList Float X → LentList Float Y → LentList Float Z → LentList Float W → TaskLists
task_of goals history weights tools = task_with (lent goals) (lent history) (lent weights) (lent tools)

-- as bytes
abbrev pub task_from : List ℕ → List ℕ → List ℕ → List Float → TaskLists
task_from goals history weights tools = task_with (goals_from goals) (history_from history) (in_force_from weights) tools

abbrev pub task_in : {X Y Z : Type 0} → LentList ℕ X → LentList ℕ Y → LentList ℕ Z → List Float → TaskLists
task_in goals history weights tools = task_from (lent goals) (lent history) (lent weights) tools

abbrev pub weights_in : {X : Type 0} → LentList ℕ X → List Float
weights_in weights = weights_from (lent weights)

-- ---- the numbers: those of loading, 1 to 6, then the call's own; 0 is accepted. Rooms are in floats.
-- setting weights, which asks for no sheet: 10
abbrev pub set_weights_number : List Float → ℕ
set_weights_number weights = weights_refusal weights

-- joints x, a history of four joint blocks, and goals: 7 for either of the blocks, then 8
unfoldable pub task_number : SheetLists → List Float → List Float → List Float → ℕ
task_number s goals history x =
    first_of (load_number s)
    (first_of (first_of (block_refusal s.codes x) (history_refusal s.codes history)) (goals_refusal (chains_of s.sizes) goals))

-- the lists that may be left out: 10 for weights, then 11 for tools
unfoldable pub optional_number : SheetLists → TaskLists → ℕ
optional_number s t = first_of (weights_refusal t.weights) (tools_number s t.tools)

-- the objective: then 9 for an output without room for one float, then 10 and 11
unfoldable pub objective_number : SheetLists → TaskLists → List Float → ℕ → ℕ
objective_number s t x value = first_of (task_number s t.goals t.history x) (first_of (room_refusal value_length value) (optional_number s t))

-- a gradient: then 9 for any of its outputs, then 10 and 11
unfoldable pub slopes_number : SheetLists → TaskLists → List Float → ℕ → ℕ → ℕ → ℕ
slopes_number s t x scratch value slopes =
    first_of (task_number s t.goals t.history x)
    (first_of (room_refusal (scratch_length s.codes) scratch)
    (first_of (room_refusal value_length value) (first_of (room_refusal (slopes_length s.codes) slopes) (optional_number s t))))

-- ---- what they write, in floats
-- what the objective is given: of the history its blocks xopt, prev_state and prev_state2, the fourth is not read; of the tools those of the sheet's chains, as many as are in use
unfoldable pub given_lent : SheetLists → TaskLists → Picks → Given
given_lent s t p =
    record {
      counts = links_of s.sizes;
      codes = s.codes;
      weights = t.weights;
      limits = s.limits;
      goals = t.goals;
      xopt = part 0 (joints s.codes) t.history;
      prev_state = part (joints s.codes) (joints s.codes) t.history;
      prev_state2 = part (2 * joints s.codes) (joints s.codes) t.history;
      tools = take (8 * length (links_of s.sizes)) t.tools;
      picks = p;
    }

-- the objective's value at block x
unfoldable pub value_in : SheetLists → TaskLists → Picks → List Float → Float
value_in s t p x = value_at (given_lent s t p) s.floats x

-- as one float
abbrev pub objective_value : SheetLists → TaskLists → Picks → List Float → List Float
objective_value s t p x = value_in s t p x ∷ []

-- the slopes along the joints, by either rule
unfoldable pub slopes_in : Rule → SheetLists → TaskLists → Picks → List Float → List Float
slopes_in rule s t p x = slopes_of rule (given_lent s t p) s.floats x

-- by steps of 1e-7 and of 1e-6
abbrev pub gradient_slopes : SheetLists → TaskLists → Picks → List Float → List Float
gradient_slopes s t p x = slopes_in EachLoss s t p x

abbrev pub finite_diff_slopes : SheetLists → TaskLists → Picks → List Float → List Float
finite_diff_slopes s t p x = slopes_in WeightedSum s t p x
