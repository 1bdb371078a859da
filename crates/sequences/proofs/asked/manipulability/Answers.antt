-- `manipulability` meets its contract: by what its calls ensure.
use mathlib.Core.Path.{ap, ◌∙◌}
use mathlib.Core.List.{[], ◌∷◌}
use lib.Ieee.{Float}
use Rattle.calls.specs.Answer.{value_if}
use Rattle.lent_bytes.specs.Lent.{bytes_of}
use Rattle.lent_bytes.specs.SheetLists.{same-two}
use Rattle.state_calls.specs.Arms.{manipulability_number_of, manipulability_value_of}
use Rattle.stored_answers.specs.Agree.{same_answer}
use Rattle.sequences.specs.Table.{outputs}
use Rattle.sequences.specs.Asked.{manipulability_agrees}
use Rattle.sequences.proofs.asked.manipulability.Goals as goal

pub returns : goal.returns
unfolding manipulability_agrees
returns c =
    let st = c.args.state in
    let x = c.requires in
    let n = c.manipulability.ensures.number ∙ ap (manipulability_number_of st) x in
    c.answered.ensures
    ∙ same_answer _ _ outputs n (ap (λ (v : Float). bytes_of (v ∷ []) ∷ []) (c.manipulability.ensures.value ∙ same-two value_if n (ap (manipulability_value_of st) x)))
