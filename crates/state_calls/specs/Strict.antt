-- The caller's pick, on the state: by which list of objectives the calls answer, and that the gradients agree under either. Numbers, record and block take no pick.
use Rattle.std.specs.Prelude.{◌≡◌, refl, Bool, true, false, List, ℕ, Float, Result}
use Rattle.geometry.specs.declared.pose.Pose.{Pose}
use Rattle.lists.specs.Splice.{splice}
use Rattle.task.specs.Task.{Given}
use Rattle.self_collision.specs.Pairs.{chain_lengths}
use Rattle.objective_master.specs.Objective.{Objective}
use Rattle.objective_master.specs.Losses.{loss_of, objectives_of}
use Rattle.refusals.specs.declared.refusal.Refusal.{Refusal}
use Rattle.calls.specs.Answer.{number_of, answer_of}
use Rattle.calls.specs.Agree.{Answers, defined, agree}
use Rattle.calls.specs.Strict.{source_objectives, strict_objectives, picking, value_by, slopes_by, finite_diff_by, loss-any-pick, not-picked, picked, value-by, slopes-by, finite-diff-by}
use Rattle.state_calls.specs.declared.state.State.{State}
use Rattle.state_calls.specs.State.{links_used, codes_used}
use Rattle.state_calls.specs.Objective.{given_state, link_floats, objective_value_of, gradient_slopes_of, finite_diff_slopes_of}

-- the joints of each chain of the state's arms
abbrev pub joints_per_chain : State → List ℕ
joints_per_chain s = chain_lengths (links_used s.arms.sizes) (codes_used s.arms.sizes s.arms.codes)

-- under a pick, state s answers by list os; the one-block gradient's slopes are the gradient's
pub record AnsweredBy (os : List Objective) (s : State) (strict : Bool) : Type 0 where
  pub value : (x : List Float) → objective_value_of s strict x ≡ value_by os (given_state s strict) (link_floats s) x
  pub slopes : (x : List Float) → gradient_slopes_of s strict x ≡ slopes_by os (given_state s strict) (link_floats s) x
  pub finite-diff-slopes : (x : List Float) → finite_diff_slopes_of s strict x ≡ finite_diff_by os (given_state s strict) (link_floats s) x

-- ---- laws: an objective costs the same under either pick
pub state-loss-any-pick : (s : State) (p q : Bool) (P : ℕ → Pose) (x : List Float) (o : Objective) → loss_of (given_state s p) P x o ≡ loss_of (given_state s q) P x o
unfolding given_state picking
state-loss-any-pick s p q P x o = loss-any-pick (record { strict = p }) (given_state s q) P x o

-- ---- laws: the list that a call answers by
answered-by : (os : List Objective) (s : State) (strict : Bool) → objectives_of (given_state s strict) ≡ os → AnsweredBy os s strict
answered-by os s strict list =
    let g : Given = given_state s strict in
    record { value = value-by g os list (link_floats s); slopes = slopes-by g os list (link_floats s); finite-diff-slopes = finite-diff-by g os list (link_floats s) }

-- not picked, every answer is by the source's own list, as it was before there was a pick
pub not-picked-answers : (s : State) → AnsweredBy (source_objectives (joints_per_chain s)) s false
unfolding given_state
not-picked-answers s = answered-by _ s false (not-picked (given_state s false) refl)

-- picked, by the strict list
pub picked-answers : (s : State) → AnsweredBy (strict_objectives (joints_per_chain s)) s true
unfolding given_state
picked-answers s = answered-by _ s true (picked (given_state s true) refl)

-- ---- laws: of the same state, pick and joints the gradients on two blocks and on one, where they are accepted, answer the definition, and so the same
-- what both promise of joints x: answer r, and the slopes list, which held `before` and holds `after`
abbrev pub GradientAnswers : State → Bool → List Float → List Float → Result Float Refusal → List Float → Type 0
GradientAnswers s strict x before r after = Answers (given_state s strict) (link_floats s) x before r after

module _ (s : State) (strict : Bool) (x before : List Float) where
  pub gradient-defined : (r : Result Float Refusal) (after : List Float) → GradientAnswers s strict x before r after → number_of r ≡ 0
      → (r ≡ answer_of 0 (objective_value_of s strict x)) × (after ≡ splice before 0 (gradient_slopes_of s strict x))
  gradient-defined = defined (given_state s strict) (link_floats s) x before

  pub gradients-agree : (r t : Result Float Refusal) (one two : List Float) → GradientAnswers s strict x before r one → GradientAnswers s strict x before t two
      → number_of r ≡ 0 → number_of t ≡ 0 → (r ≡ t) × (one ≡ two)
  gradients-agree = agree (given_state s strict) (link_floats s) x before
