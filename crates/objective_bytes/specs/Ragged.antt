-- A byte list beside the sheet that is ragged, or longer than any that is taken, is refused with that list's number: joints and history 7, goals 8,
-- weights 10, tools 11; a ragged output 9. Lower numbers come first, as ever.
use Rattle.std.specs.Prelude.{◌≡◌, List, [], ℕ, suc, ◌%◌, Float, length}
use Rattle.std.proofs.Common.{ap, ◌∙◌, arith}
use Rattle.lists.specs.Runs.{runs}
use Rattle.lists.specs.Listed.{listed}
use Rattle.sheet.specs.Chain.{joints}
use Rattle.refusals.specs.Lowest.{first-zero, first-is}
use Rattle.refusals.specs.Lengths.{scratch_length, slopes_length, value_length}
use Rattle.refusals.specs.Refusal.{chains_of, block_refusal, history_refusal, room_refusal, weights_refusal}
use Rattle.refusals.specs.Passed.{room-behind, weights-misfit}
use Rattle.lent_bytes.specs.Lent.{Misfit, count_in, floats_in, room_in, no_floats}
use Rattle.lent_bytes.specs.Optional.{wrong-length}
use Rattle.lent_bytes.specs.SheetLists.{SheetLists}
use Rattle.arm_bytes.specs.ArmCalls.{load_number, tools_number}
use Rattle.arm_bytes.specs.Ragged.{no_block, no-history, no-goals, after, ragged-output, shape, moving}
use Rattle.objective_bytes.specs.ObjectiveCalls.{weights_from, in_force_from, TaskLists, set_weights_number, task_number, optional_number, objective_number, slopes_number}
use Rattle.objective_bytes.specs.Weights.{wrong-in-force}

-- a call that is refused with one of 1 to 8
module _ (s : SheetLists) (t : TaskLists) (x : List Float) (k : ℕ) (e : task_number s t.goals t.history x ≡ suc k) where
  pub objective-refused : (value : ℕ) → objective_number s t x value ≡ suc k
  unfolding objective_number
  objective-refused value = first-is _ _ k e

  pub slopes-refused : (scratch value slopes : ℕ) → slopes_number s t x scratch value slopes ≡ suc k
  unfolding slopes_number
  slopes-refused scratch value slopes = first-is _ _ k e

module _ (s : SheetLists) (e : load_number s ≡ 0) where
  pub ragged-joints : (goals history : List Float) (b : List ℕ) → Misfit 8 16 (length b) → task_number s goals history (floats_in 16 b) ≡ 7
  unfolding task_number
  ragged-joints goals history b m =
      let seven : block_refusal s.codes (floats_in 16 b) ≡ 7 = rw (no_floats 16 b m) (no_block s.codes (omega (arith, moving s e))) in
      after _ _ _ 6 e (first-is _ _ 6 seven)

  module _ (x : List Float) (q : block_refusal s.codes x ≡ 0) where
    pub ragged-history : (goals : List Float) (b : List ℕ) → Misfit 8 64 (length b) → task_number s goals (floats_in 64 b) x ≡ 7
    unfolding task_number
    ragged-history goals b m =
        after _ _ _ 6 e (first-zero _ _ q ∙ rw (no_floats 64 b m) (no-history s.codes (omega (arith, moving s e))))

    pub ragged-goals : (history : List Float) (b : List ℕ) → history_refusal s.codes history ≡ 0 → Misfit 8 52 (length b)
        → task_number s (floats_in 52 b) history x ≡ 8
    unfolding task_number
    ragged-goals history b h m =
        first-zero _ _ e ∙ first-zero _ _ (first-zero _ _ q ∙ h)
        ∙ rw (no_floats 52 b m) (no-goals (chains_of s.sizes) (shape s e).sized.some)

  -- on input that is taken, an output of n bytes
  module _ (t : TaskLists) (x : List Float) (q : task_number s t.goals t.history x ≡ 0) (n : ℕ) (m : n % 8 ≡ 0 → ⊥) where
    pub objective-ragged-value : objective_number s t x (room_in n) ≡ 9
    unfolding objective_number
    objective-ragged-value = after _ _ _ 8 q (ragged-output 1 n (omega arith) m)

    pub slopes-ragged-scratch : (value slopes : ℕ) → slopes_number s t x (room_in n) value slopes ≡ 9
    unfolding slopes_number
    slopes-ragged-scratch value slopes = after _ _ _ 8 q (ragged-output (joints s.codes) n (omega (arith, moving s e)) m)

    pub slopes-ragged-value : (scratch slopes : ℕ) → slopes_number s t x scratch (room_in n) slopes ≡ 9
    unfolding slopes_number
    slopes-ragged-value scratch slopes =
        let nine = ragged-output 1 n (omega arith) m in
        first-zero _ _ q ∙ room-behind (joints s.codes) scratch _ (first-is _ _ 8 nine)

    pub slopes-ragged-slopes : (scratch value : ℕ) → slopes_number s t x scratch value (room_in n) ≡ 9
    unfolding slopes_number
    slopes-ragged-slopes scratch value =
        let nine = ragged-output (joints s.codes) n (omega (arith, moving s e)) m in
        first-zero _ _ q ∙ room-behind (joints s.codes) scratch _ (room-behind 1 value _ (first-is _ _ 8 nine))

-- ---- weights
-- set_weights refuses a list without a byte too
pub set-no-weights : set_weights_number (weights_from []) ≡ 10
unfolding floats_in count_in listed runs
set-no-weights = weights-misfit [] (λ z. omega arith)

pub set-ragged-weights : (b : List ℕ) → Misfit 8 8 (length b) → set_weights_number (weights_from b) ≡ 10
set-ragged-weights b m = ap weights_refusal (no_floats 8 b m) ∙ weights-misfit [] (λ z. omega arith)

-- for the other calls a ragged or overlong list is not none
pub ragged-weights : (b : List ℕ) → Misfit 8 8 (length b) → weights_refusal (in_force_from b) ≡ 10
ragged-weights b m = ap weights_refusal (wrong-in-force b (wrong-length 8 b m)) ∙ set-ragged-weights b m

-- weights that are refused, and tools where the weights are not
module _ (s : SheetLists) (t : TaskLists) where
  pub refused-weights : weights_refusal t.weights ≡ 10 → optional_number s t ≡ 10
  unfolding optional_number
  refused-weights ten = first-is _ _ 9 ten

  pub refused-tools : weights_refusal t.weights ≡ 0 → tools_number s t.tools ≡ 11 → optional_number s t ≡ 11
  unfolding optional_number
  refused-tools none eleven = first-zero _ _ none ∙ eleven

  -- the call's number then, where nothing else is refused
  module _ (x : List Float) (q : task_number s t.goals t.history x ≡ 0) where
    pub objective-refused-optional : (value : ℕ) → room_refusal value_length value ≡ 0 → objective_number s t x value ≡ optional_number s t
    unfolding objective_number
    objective-refused-optional value v = first-zero _ _ q ∙ first-zero _ _ v

    pub slopes-refused-optional : (scratch value slopes : ℕ) → room_refusal (scratch_length s.codes) scratch ≡ 0 → room_refusal value_length value ≡ 0
        → room_refusal (slopes_length s.codes) slopes ≡ 0 → slopes_number s t x scratch value slopes ≡ optional_number s t
    unfolding slopes_number
    slopes-refused-optional scratch value slopes a v d = first-zero _ _ q ∙ first-zero _ _ a ∙ first-zero _ _ v ∙ first-zero _ _ d
