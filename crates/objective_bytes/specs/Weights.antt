-- The weights that a byte call is lent: none, the built-in table as a list, or others.
use Rattle.std.specs.Prelude.{◌≡◌, refl, List, [], ℕ, Float, length}
use Rattle.std.proofs.Common.{sym, ◌∙◌, arith, eq-eqb, ne_eqb}
use Rattle.std.proofs.Math.Path.{ap}
use Rattle.std.specs.Float.Ieee.{of_bits, to_bits}
use Rattle.lists.specs.Runs.{runs}
use Rattle.lists.specs.Listed.{listed}
use Rattle.task.specs.declared.picks.Picks.{Picks}
use Rattle.task.specs.Task.{Given}
use Rattle.refusals.specs.Lowest.{first-zero}
use Rattle.refusals.specs.Refusal.{weights_refusal}
use Rattle.objective_master.specs.Weights.{weight_priors, in_force, none-in-force, loaded-in-force}
use Rattle.gradient.specs.Gradient.{value_at, slopes_of}
use Rattle.gradient.specs.declared.slopes.Rule.{Rule}
use Rattle.calls.specs.Weights.{built_in, priors-pass, built-in-same}
use Rattle.lent_bytes.specs.Bytes.{float_at}
use Rattle.lent_bytes.specs.Lent.{count_in, floats_in, bytes_of_each, bytes_of}
use Rattle.lent_bytes.specs.Optional.{Empty, Floats, WrongLength, optional_in, left_out, only-left-out}
use Rattle.lent_bytes.specs.SheetLists.{SheetLists}
use Rattle.arm_bytes.specs.ArmCalls.{tools_number}
use Rattle.objective_bytes.specs.ObjectiveCalls.{weights_from, in_force_from, TaskLists, optional_number, given_lent, value_in, slopes_in}

-- ---- which weights are in force
-- a list without a byte: the built-in ones
pub none_lent : in_force_from [] ≡ weight_priors
unfolding in_force_from
none_lent = none-in-force (weights_from [])

-- a list with a byte: what it holds
pub some-in-force : (b : List ℕ) → (length b ≡ 0 → ⊥) → in_force_from b ≡ weights_from b
unfolding in_force_from
some-in-force b h = rw (ne_eqb (length b) 0 h) (loaded-in-force (weights_from b))

-- told by the decoder: a list that is left out, one of so many floats, one of a wrong length
pub left-out-in-force : (b : List ℕ) → optional_in 8 b ≡ Empty → in_force_from b ≡ weight_priors
unfolding in_force_from
left-out-in-force b e = rw (eq-eqb (length b) 0 (only-left-out 8 b e)) (none-in-force (weights_from b))

pub floats-in-force : (b : List ℕ) (n : ℕ) → optional_in 8 b ≡ Floats n → in_force_from b ≡ weights_from b
floats-in-force b n e = some-in-force b (λ z. let k : Empty ≡ Floats n = sym (left_out 8 b z) ∙ e in let u : ◌≡◌ {A = ℕ} 0 1 = cc in omega arith)

pub wrong-in-force : (b : List ℕ) → optional_in 8 b ≡ WrongLength → in_force_from b ≡ weights_from b
wrong-in-force b e = some-in-force b (λ z. let k : Empty ≡ WrongLength = sym (left_out 8 b z) ∙ e in let u : ◌≡◌ {A = ℕ} 0 1 = cc in omega arith)

-- the bytes of the built-in ones
pub built-in-lent : in_force_from (bytes_of weight_priors) ≡ weight_priors
unfolding in_force_from in_force floats_in count_in listed runs float_at bytes_of bytes_of_each weight_priors of_bits to_bits
built-in-lent = refl

-- ---- what is answered without weights to lend
pub no-ten : (ws : List Float) → ws ≡ weight_priors → weights_refusal ws ≡ 0
no-ten ws e = ap weights_refusal e ∙ priors-pass

-- of the lists that may be left out the tools alone are asked then
pub optional-built-in : (s : SheetLists) (t : TaskLists) → t.weights ≡ weight_priors → optional_number s t ≡ tools_number s t.tools
unfolding optional_number
optional-built-in s t e = first-zero _ _ (no-ten _ e)

-- with the built-in weights in force, lent or not, the answers are those
module _ (s : SheetLists) (t : TaskLists) (p : Picks) (x : List Float) (e : t.weights ≡ weight_priors) where
  given-built-in : given_lent s t p ≡ built_in (given_lent s t p)
  unfolding given_lent
  given-built-in = built-in-same (given_lent s t p) e

  pub value-built-in : value_in s t p x ≡ value_at (built_in (given_lent s t p)) s.floats x
  unfolding value_in
  value-built-in = ap (λ (g : Given). value_at g s.floats x) given-built-in

  pub slopes-built-in : (rule : Rule) → slopes_in rule s t p x ≡ slopes_of rule (built_in (given_lent s t p)) s.floats x
  unfolding slopes_in
  slopes-built-in rule = ap (λ (g : Given). slopes_of rule g s.floats x) given-built-in
