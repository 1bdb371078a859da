-- `objective` meets its contract: the call is lent the record's lists, and outputs that are filled.
use mathlib.Core.Path.{ap, ◌∙◌}
use mathlib.Core.List.{[], ◌∷◌}
use Rattle.lent_bytes.specs.Lent.{numbers_in, floats_in, room_in, bytes_of}
use Rattle.lent_bytes.specs.SheetLists.{same-sheet}
use Rattle.lent_bytes.specs.Picks.{picks_from}
use Rattle.lent_bytes.specs.ToolLists.{tools_from}
use Rattle.objective_bytes.specs.ObjectiveCalls.{task_from, objective_number, objective_value}
use Rattle.stored_answers.specs.Same.{same-four}
use Rattle.stored_answers.specs.Stored.{list_of}
use Rattle.stored_answers.specs.Agree.{filled-length, left-written, same_answer}
use Rattle.replay_calls.specs.Table.{objective_outputs}
use Rattle.replay_calls.specs.Objectives.{objective_agrees}
use Rattle.replay_calls.proofs.objective_cases.objective.Goals as goal

pub returns : goal.returns
unfolding objective_agrees
returns c =
    let o = list_of c.args.r.s.now c.args.r.at in
    let z = same-sheet (ap (numbers_in 5) c.list.ensures.0) (ap (numbers_in 64) c.list-2.ensures.0) (ap (floats_in 448) c.list-3.ensures.0) (ap (floats_in 32) c.list-4.ensures.0) in
    let k = same-four tools_from c.list-8.ensures.0 c.list-9.ensures.0 c.list-10.ensures.0 c.list-11.ensures.0 in
    let t = same-four task_from c.list-5.ensures.0 c.list-6.ensures.0 c.list-7.ensures.0 k in
    let x = ap (floats_in 16) c.list-12.ensures.0 in
    let p = ap picks_from c.list_number-strict.ensures in
    let n = c.objective-number.ensures.number ∙ same-four objective_number z t x (ap room_in (filled-length (o objective_outputs) c.requires)) in
    c.agrees.ensures ∙ same_answer _ _ objective_outputs n (ap (λ a. a ∷ [])
    (c.objective-number.ensures.value ∙ left-written (o objective_outputs) n c.requires (ap bytes_of (same-four objective_value z t p x))))
