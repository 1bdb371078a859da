-- `sizing` meets its contract: the call is lent the record's lists, and an output that is filled.
use mathlib.Core.Path.{ap, ◌∙◌}
use mathlib.Core.List.{[], ◌∷◌}
use Rattle.lent_bytes.specs.Lent.{numbers_in, floats_in, number_room_in, bytes_of_numbers}
use Rattle.lent_bytes.specs.Picks.{picks_from}
use Rattle.lent_bytes.specs.SheetLists.{same-three}
use Rattle.arm_bytes.specs.ArmCalls.{sizing_number, plan_numbers}
use Rattle.stored_answers.specs.Same.{same-four}
use Rattle.stored_answers.specs.Stored.{list_of}
use Rattle.stored_answers.specs.Agree.{filled-length, left-written, same_answer}
use Rattle.replay_calls.specs.Table.{plan_output}
use Rattle.replay_calls.specs.Arms.{sizing_agrees}
use Rattle.replay_calls.proofs.arm_cases.sizing.Goals as goal

pub returns : goal.returns
unfolding sizing_agrees
returns c =
    let o = list_of c.args.r.s.now c.args.r.at in
    let z = ap (numbers_in 5) c.list.ensures.0 in
    let k = ap (numbers_in 64) c.list-2.ensures.0 in
    let f = ap (floats_in 448) c.list-3.ensures.0 in
    let p = ap picks_from c.list_number-strict.ensures in
    let n = c.sizing-number.ensures.number ∙ same-four sizing_number z k f (ap number_room_in (filled-length (o plan_output) c.requires)) in
    c.agrees.ensures ∙ same_answer _ _ plan_output n (ap (λ a. a ∷ [])
    (c.sizing-number.ensures.plan ∙ left-written (o plan_output) n c.requires (ap bytes_of_numbers (same-three plan_numbers p z k))))
