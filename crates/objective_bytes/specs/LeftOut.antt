-- Weights and tools left out: numbers and answers are those from before there were such lists.
use Rattle.std.specs.Prelude.{◌≡◌, List, ℕ, ◌*◌, Float}
use Rattle.std.proofs.Math.Path.{ap}
use Rattle.std.proofs.Common.{◌∙◌}
use Rattle.std.proofs.Math.ListN.{length}
use Rattle.task.specs.declared.picks.Picks.{Picks}
use Rattle.refusals.specs.Lengths.{scratch_length, slopes_length, value_length}
use Rattle.refusals.specs.Lowest.{first_of, first-last}
use Rattle.refusals.specs.Refusal.{links_of, room_refusal, weights_refusal}
use Rattle.objective_master.specs.Weights.{weight_priors}
use Rattle.gradient.specs.Gradient.{value_at, slopes_of}
use Rattle.gradient.specs.declared.slopes.Rule.{Rule}
use Rattle.calls.specs.Tools.{NoTool, bare, take_none, value-bare, slopes-bare}
use Rattle.lent_bytes.specs.SheetLists.{SheetLists}
use Rattle.arm_bytes.specs.Tools.{no-eleven}
use Rattle.objective_bytes.specs.ObjectiveCalls.{TaskLists, task_number, optional_number, objective_number, slopes_number, given_lent, value_in, slopes_in}
use Rattle.objective_bytes.specs.Weights.{optional-built-in}

module _ (s : SheetLists) (t : TaskLists) where
  -- without a tool only the weights are asked
  pub optional-no-tool : NoTool t.tools → optional_number s t ≡ weights_refusal t.weights
  unfolding optional_number
  optional-no-tool none = first-last _ _ (no-eleven s t.tools none)

  -- with the built-in weights, lent or not, nothing is
  pub optional-left-out : t.weights ≡ weight_priors → NoTool t.tools → optional_number s t ≡ 0
  optional-left-out e none = optional-built-in s t e ∙ no-eleven s t.tools none

  -- the calls' numbers are then those without 10 and 11
  module _ (x : List Float) (zero : optional_number s t ≡ 0) where
    pub objective-number-left-out : (value : ℕ) → objective_number s t x value ≡ first_of (task_number s t.goals t.history x) (room_refusal value_length value)
    unfolding objective_number
    objective-number-left-out value = ap (first_of (task_number s t.goals t.history x)) (first-last _ _ zero)

    pub slopes-number-left-out : (scratch value slopes : ℕ) → slopes_number s t x scratch value slopes
        ≡ first_of (task_number s t.goals t.history x)
        (first_of (room_refusal (scratch_length s.codes) scratch) (first_of (room_refusal value_length value) (room_refusal (slopes_length s.codes) slopes)))
    unfolding slopes_number
    slopes-number-left-out scratch value slopes =
        ap (λ (n : ℕ). first_of (task_number s t.goals t.history x) (first_of (room_refusal (scratch_length s.codes) scratch) (first_of (room_refusal value_length value) n)))
        (first-last _ _ zero)

  -- without a tool the answers are those of an empty list of tools
  module _ (none : NoTool t.tools) (p : Picks) where
    given-none : NoTool (given_lent s t p).tools
    unfolding given_lent
    given-none = take_none (8 * length (links_of s.sizes)) t.tools none

    pub value-no-tool : (x : List Float) → value_in s t p x ≡ value_at (bare (given_lent s t p)) s.floats x
    unfolding value_in
    value-no-tool x = value-bare (given_lent s t p) given-none s.floats x

    pub slopes-no-tool : (rule : Rule) (x : List Float) → slopes_in rule s t p x ≡ slopes_of rule (bare (given_lent s t p)) s.floats x
    unfolding slopes_in
    slopes-no-tool rule x = slopes-bare (given_lent s t p) given-none rule s.floats x
