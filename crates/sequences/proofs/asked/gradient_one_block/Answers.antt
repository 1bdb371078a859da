-- `gradient_one_block` meets its contract: the number and the value, the block, the slopes, the record.
use mathlib.Core.Path.{refl, ap, ◌∙◌}
use mathlib.Core.List.{[], ◌∷◌}
use lib.Ieee.{Float}
use lib.ListN.{length}
use Rattle.calls.specs.Answer.{value_if}
use Rattle.lent_bytes.specs.Lent.{bytes_of, bytes_of_numbers}
use Rattle.lent_bytes.specs.SheetLists.{same-two}
use Rattle.state_calls.specs.Objective.{objective_value_of, gradient_slopes_of}
use Rattle.state_calls.specs.OneBlock.{one_block_number_of, record_joints_of, record_links_of, record_poses_of}
use Rattle.stored_answers.specs.Same.{same-five}
use Rattle.stored_answers.specs.Agree.{same_answer, agrees_on}
use Rattle.sequences.specs.Table.{objective_outputs}
use Rattle.sequences.specs.Lists.{left-same}
use Rattle.sequences.specs.Asked.{one_block_agrees}
use Rattle.sequences.proofs.asked.gradient_one_block.Goals as goal

pub returns : goal.returns
unfolding one_block_agrees
returns c =
    let st = c.args.state in
    let t = c.strict-strict.ensures in
    let x = c.requires.block_value in
    let o = c.requires.slopes_value in
    let n = c.gradient_one_block-answer.ensures.number ∙ same-five (one_block_number_of st) x (ap length o.0) (ap length o.1) (ap length o.2) (ap length o.3) in
    let value = c.answered-a.ensures
    ∙ same_answer _ _ objective_outputs n (ap (λ (v : Float). bytes_of (v ∷ []) ∷ []) (c.gradient_one_block-answer.ensures.value ∙ same-two value_if n (same-two (objective_value_of st) t x))) in
    let second = agrees_on _ _ _ objective_outputs (_ ∷ []) value (ap bytes_of (c.gradient_one_block-answer.ensures.block ∙ x)) c.elements-b.ensures in
    let third = agrees_on _ _ _ objective_outputs (_ ∷ _ ∷ []) second (ap bytes_of (c.gradient_one_block-answer.ensures.slopes ∙ left-same n o.0 (same-two (gradient_slopes_of st) t x))) c.elements-c.ensures in
    let fourth = agrees_on _ _ _ objective_outputs (_ ∷ _ ∷ _ ∷ []) third (ap bytes_of_numbers (c.gradient_one_block-answer.ensures.record_written.0 ∙ left-same {xs = record_joints_of st} n o.1 refl)) c.elements-d.ensures in
    let fifth = agrees_on _ _ _ objective_outputs (_ ∷ _ ∷ _ ∷ _ ∷ []) fourth (ap bytes_of_numbers (c.gradient_one_block-answer.ensures.record_written.1 ∙ left-same {xs = record_links_of st} n o.2 refl)) c.elements-e.ensures in
    agrees_on _ _ _ objective_outputs (_ ∷ _ ∷ _ ∷ _ ∷ _ ∷ []) fifth (ap bytes_of (c.gradient_one_block-answer.ensures.record_written.2 ∙ left-same n o.3 (ap (record_poses_of st) x))) c.elements.ensures
