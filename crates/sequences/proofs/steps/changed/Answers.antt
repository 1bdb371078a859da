-- `changed` meets its contract: the number of the outcome.
use Rattle.std.specs.Prelude.{◌≡◌, refl, Result, Ok, Err}
use Rattle.std.proofs.Common.{ap, ◌∙◌}
use Rattle.refusals.specs.declared.refusal.Refusal.{Refusal}
use Rattle.refusals.specs.Number.{number_of}
use Rattle.state_calls.specs.declared.state.State.{State}
use Rattle.state_calls.specs.Load.{Outcome, answered}
use Rattle.stored_answers.specs.Agree.{same_answer}
use Rattle.sequences.proofs.steps.changed.Goals as goal

numbered : (old : State) (r : Result State Refusal) → number_of r ≡ (answered old r).number
numbered old (Ok new) = refl
numbered old (Err e) = refl

pub returns : goal.returns
returns c =
    c.number.ensures
    ∙ same_answer _ _ 0 (c.number_of.ensures ∙ numbered c.args.state _ ∙ ap (λ (o : Outcome). o.number) c.outcome.ensures) refl
