-- `gradient` meets its contract: the number and the value, the scratch list, the slopes.
use mathlib.Core.Path.{ap, ◌∙◌}
use mathlib.Core.List.{[], ◌∷◌}
use lib.Ieee.{Float}
use lib.ListN.{length}
use Rattle.calls.specs.Answer.{value_if}
use Rattle.lent_bytes.specs.Lent.{bytes_of}
use Rattle.lent_bytes.specs.SheetLists.{same-two, same-three}
use Rattle.state_calls.specs.Objective.{gradient_number_of, objective_value_of, gradient_slopes_of}
use Rattle.stored_answers.specs.Agree.{same_answer, agrees_on}
use Rattle.sequences.specs.Table.{objective_outputs}
use Rattle.sequences.specs.Lists.{left-same}
use Rattle.sequences.specs.Asked.{gradient_agrees}
use Rattle.sequences.proofs.asked.gradient.Goals as goal

pub returns : goal.returns
unfolding gradient_agrees
returns c =
    let st = c.args.state in
    let t = c.strict-strict.ensures in
    let x = c.requires.joints_value in
    let n = c.gradient-answer.ensures.number ∙ same-three (gradient_number_of st) x (ap length c.requires.scratch_value.0) (ap length c.requires.scratch_value.1) in
    let value = c.answered-a.ensures
    ∙ same_answer _ _ objective_outputs n (ap (λ (v : Float). bytes_of (v ∷ []) ∷ []) (c.gradient-answer.ensures.value ∙ same-two value_if n (same-two (objective_value_of st) t x))) in
    let second = agrees_on _ _ _ objective_outputs (_ ∷ []) value (ap bytes_of (c.gradient-answer.ensures.scratch ∙ left-same n c.requires.scratch_value.0 x)) c.elements-b.ensures in
    agrees_on _ _ _ objective_outputs (_ ∷ _ ∷ []) second (ap bytes_of (c.gradient-answer.ensures.slopes ∙ left-same n c.requires.scratch_value.1 (same-two (gradient_slopes_of st) t x))) c.elements.ensures
