-- `after` meets its contract: the state of the outcome.
use Rattle.std.specs.Prelude.{◌≡◌, refl, ℕ, Result, Ok, Err}
use Rattle.std.specs.Result.{result_unwrap_or}
use Rattle.std.proofs.Common.{ap, ◌∙◌}
use Rattle.refusals.specs.declared.refusal.Refusal.{Refusal}
use Rattle.state_calls.specs.declared.state.State.{State}
use Rattle.state_calls.specs.Load.{Outcome, answered}
use Rattle.sequences.specs.Changes.{outcome_at}
use Rattle.sequences.proofs.steps.after.Goals as goal

stays : (old : State) (r : Result State Refusal) → result_unwrap_or r old ≡ (answered old r).state
stays old (Ok new) = refl
stays old (Err e) = refl

pub returns : goal.returns
returns c =
    let a = c.args in
    c.unwrap_or.ensures
    ∙ stays a.state c.outcome.result
    ∙ ap (λ (o : Outcome). o.state) c.outcome.ensures
    ∙ ap (λ (n : ℕ). (outcome_at n a.state a.r.s.now a.r.at).state) c.call.ensures.0
