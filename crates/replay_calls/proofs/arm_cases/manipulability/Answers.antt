-- `manipulability` meets its contract: the call is lent the record's lists, and outputs that are filled.
use mathlib.Core.Path.{ap, ◌∙◌}
use mathlib.Core.List.{[], ◌∷◌}
use Rattle.lent_bytes.specs.Lent.{numbers_in, floats_in, room_in, bytes_of}
use Rattle.lent_bytes.specs.SheetLists.{same-two, same-three, same-sheet}
use Rattle.arm_bytes.specs.ArmCalls.{manipulability_number, manipulability_value}
use Rattle.stored_answers.specs.Stored.{list_of}
use Rattle.stored_answers.specs.Agree.{filled-length, left-written, same_answer}
use Rattle.replay_calls.specs.Table.{arm_outputs}
use Rattle.replay_calls.specs.Arms.{manipulability_agrees}
use Rattle.replay_calls.proofs.arm_cases.manipulability.Goals as goal

pub returns : goal.returns
unfolding manipulability_agrees
returns c =
    let o = list_of c.args.r.s.now c.args.r.at in
    let z = same-sheet (ap (numbers_in 5) c.list.ensures.0) (ap (numbers_in 64) c.list-2.ensures.0) (ap (floats_in 448) c.list-3.ensures.0) (ap (floats_in 32) c.list-4.ensures.0) in
    let x = ap (floats_in 16) c.list-5.ensures.0 in
    let n = c.manipulability-number.ensures.number ∙ same-three manipulability_number z x (ap room_in (filled-length (o arm_outputs) c.requires)) in
    c.agrees.ensures ∙ same_answer _ _ arm_outputs n (ap (λ a. a ∷ [])
    (c.manipulability-number.ensures.value ∙ left-written (o arm_outputs) n c.requires (ap bytes_of (same-two manipulability_value z x))))
