-- `objective` meets its contract: by what its calls ensure.
use mathlib.Core.Path.{ap, ◌∙◌}
use mathlib.Core.List.{[], ◌∷◌}
use lib.Ieee.{Float}
use Rattle.calls.specs.Answer.{value_if}
use Rattle.lent_bytes.specs.Lent.{bytes_of}
use Rattle.lent_bytes.specs.SheetLists.{same-two}
use Rattle.state_calls.specs.Objective.{objective_number_of, objective_value_of}
use Rattle.stored_answers.specs.Agree.{same_answer}
use Rattle.sequences.specs.Table.{objective_outputs}
use Rattle.sequences.specs.Asked.{objective_agrees}
use Rattle.sequences.proofs.asked.objective.Goals as goal

pub returns : goal.returns
unfolding objective_agrees
returns c =
    let st = c.args.state in
    let t = c.strict-strict.ensures in
    let x = c.requires in
    let n = c.objective.ensures.number ∙ ap (objective_number_of st) x in
    c.answered.ensures
    ∙ same_answer _ _ objective_outputs n (ap (λ (v : Float). bytes_of (v ∷ []) ∷ []) (c.objective.ensures.value ∙ same-two value_if n (same-two (objective_value_of st) t x)))
