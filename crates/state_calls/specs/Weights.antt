-- Setting the weights. They belong to no arms, so none are asked for. A refusal keeps the old state.
use Rattle.std.specs.Prelude.{◌≡◌, Bool, true, false, List, ℕ, Float, length}
use Rattle.std.proofs.Math.Path.{refl}
use Rattle.std.proofs.Common.{sym, ap, ◌∙◌, arith, ne_eqb, take_all}
use Rattle.lists.specs.Splice.{splice, length-splice, part-splice}
use Rattle.refusals.specs.Refusal.{weights_refusal}
use Rattle.objective_master.specs.Weights.{weight_priors, none-in-force, loaded-in-force}
use Rattle.gradient.specs.Gradient.{value_at, gradient_of, finite_diff_of}
use Rattle.calls.specs.Weights.{built_in, priors-pass, built-in-same}
use Rattle.state_calls.specs.declared.state.State.{State}
use Rattle.state_calls.specs.State.{zeros, no_weights, empty_state}
use Rattle.state_calls.specs.Load.{Outcome, outcome_of, outcome-keeps, load_of}
use Rattle.state_calls.specs.Party.{set_goals_of, reset_state_of, update_state_of}
use Rattle.state_calls.specs.StoredTask.{weights_in_force}
use Rattle.state_calls.specs.Objective.{given_state, link_floats, objective_number_of, objective_value_of, gradient_number_of, gradient_slopes_of, finite_diff_slopes_of}
use Rattle.state_calls.specs.OneBlock.{one_block_number_of}

-- a list in place of the one before
unfoldable pub with_weights : State → List Float → State
with_weights s ws = record { arms = s.arms; weights = record { loaded = true; list = ws }; party = s.party }

-- set weights: 10
unfoldable pub set_weights_of : State → List Float → Outcome
set_weights_of s ws = outcome_of (weights_refusal ws) s (with_weights s ws)

-- ---- laws: eight weights fill the array
pub list-filled : (ws : List Float) → length ws ≡ 8 → splice (zeros 8) 0 ws ≡ ws
list-filled ws e =
    let l : length (splice (zeros 8) 0 ws) ≡ 8 = length-splice (zeros 8) 0 ws (omega (arith, e)) in
    sym (take_all 8 (splice (zeros 8) 0 ws) (omega (arith, l))) ∙ part-splice (zeros 8) 0 8 ws (omega arith) e

-- ---- laws: a list that is taken is in force, one that is refused changes nothing
pub weights-taken : (s : State) (ws : List Float) → weights_refusal ws ≡ 0 → (set_weights_of s ws).state ≡ with_weights s ws
unfolding set_weights_of outcome_of
weights-taken s ws e = rw e

pub weights-set : (s : State) (ws : List Float) → weights_refusal ws ≡ 0 → weights_in_force (set_weights_of s ws).state.weights ≡ ws
unfolding with_weights
weights-set s ws e = ap (λ (t : State). weights_in_force t.weights) (weights-taken s ws e) ∙ loaded-in-force ws

pub weights-refused : (s : State) (ws : List Float) → (weights_refusal ws ≡ 0 → ⊥) → (set_weights_of s ws).state ≡ s
unfolding set_weights_of outcome_of
weights-refused s ws h = rw (ne_eqb (weights_refusal ws) 0 h)

-- ---- laws: arms, goals and history are left alone
module _ (s : State) (ws : List Float) where
  pub set-weights-keeps-arms : (set_weights_of s ws).state.arms ≡ s.arms
  unfolding set_weights_of with_weights
  set-weights-keeps-arms = outcome-keeps (λ t. t.arms) _ s _ refl

  pub set-weights-keeps-party : (set_weights_of s ws).state.party ≡ s.party
  unfolding set_weights_of with_weights
  set-weights-keeps-party = outcome-keeps (λ t. t.party) _ s _ refl

  -- so the numbers of the weighted calls do not depend on the weights
  pub set-weights-keeps-objective : (x : List Float) → objective_number_of (set_weights_of s ws).state x ≡ objective_number_of s x
  set-weights-keeps-objective x = rw (set-weights-keeps-arms, set-weights-keeps-party)

  pub set-weights-keeps-gradient : (x : List Float) (scratch slopes : ℕ) → gradient_number_of (set_weights_of s ws).state x scratch slopes ≡ gradient_number_of s x scratch slopes
  set-weights-keeps-gradient x scratch slopes = rw (set-weights-keeps-arms, set-weights-keeps-party)

  pub set-weights-keeps-one-block : (x : List Float) (slopes rj rl rp : ℕ) → one_block_number_of (set_weights_of s ws).state x slopes rj rl rp ≡ one_block_number_of s x slopes rj rl rp
  set-weights-keeps-one-block x slopes rj rl rp = rw (set-weights-keeps-arms, set-weights-keeps-party)

-- ---- laws: the other calls keep the weights, accepted or refused
pub load-keeps-weights : (s : State) (sizes codes : List ℕ) (floats limits : List Float) → (load_of s sizes codes floats limits).state.weights ≡ s.weights
unfolding load_of
load-keeps-weights s sizes codes floats limits = outcome-keeps (λ t. t.weights) _ s _ refl

module _ (s : State) (x : List Float) where
  pub set-goals-keeps-weights : (set_goals_of s x).state.weights ≡ s.weights
  unfolding set_goals_of
  set-goals-keeps-weights = outcome-keeps (λ t. t.weights) _ s _ refl

  pub reset-keeps-weights : (reset_state_of s x).state.weights ≡ s.weights
  unfolding reset_state_of
  reset-keeps-weights = outcome-keeps (λ t. t.weights) _ s _ refl

  pub update-keeps-weights : (update_state_of s x).state.weights ≡ s.weights
  unfolding update_state_of
  update-keeps-weights = outcome-keeps (λ t. t.weights) _ s _ refl

-- ---- laws: what was answered before there were weights to load
-- state t answers what the arms, goals and history of s answered then, whichever list is picked; the one-block gradient's slopes are the gradient's
pub record AnsweredBuiltIn (s t : State) : Type 0 where
  pub value : (strict : Bool) (x : List Float) → objective_value_of t strict x ≡ value_at (built_in (given_state s strict)) (link_floats s) x
  pub slopes : (strict : Bool) (x : List Float) → gradient_slopes_of t strict x ≡ gradient_of (built_in (given_state s strict)) (link_floats s) x
  pub finite-diff-slopes : (strict : Bool) (x : List Float) → finite_diff_slopes_of t strict x ≡ finite_diff_of (built_in (given_state s strict)) (link_floats s) x

answered : (s t : State) → ((strict : Bool) → given_state t strict ≡ built_in (given_state s strict)) → link_floats t ≡ link_floats s → AnsweredBuiltIn s t
answered s t g f = record { value = λ p x. rw (g p, f); slopes = λ p x. rw (g p, f); finite-diff-slopes = λ p x. rw (g p, f) }

-- at the start none is loaded
pub no-weights : empty_state.weights.loaded ≡ false
unfolding empty_state no_weights
no-weights = refl

-- with no list loaded every weighted answer is the one before
pub no-list-loaded : (s : State) → s.weights.loaded ≡ false → AnsweredBuiltIn s s
unfolding given_state
no-list-loaded s e = answered s s (λ p. built-in-same (given_state s p) (rw e (none-in-force s.weights.list))) refl

-- and so it is with the built-in weights loaded as a list, whatever was loaded before
pub built-in-loaded : (s : State) → AnsweredBuiltIn s (set_weights_of s weight_priors).state
unfolding with_weights given_state built_in
built-in-loaded s =
    rw (weights-taken s weight_priors priors-pass)
    (answered s (with_weights s weight_priors) (λ p. built-in-same (given_state (with_weights s weight_priors) p) (loaded-in-force weight_priors)) refl)
