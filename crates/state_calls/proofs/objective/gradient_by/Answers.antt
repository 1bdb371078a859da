-- `gradient_by` meets its contract: the list is laid of the state's arrays.
use mathlib.Core.Path.{refl, ap, ◌∙◌}
use mathlib.Core.List.{List}
use lib.Ieee.{Float}
use Rattle.lists.specs.Splice.{splice}
use Rattle.refusals.specs.Number.{number_of}
use Rattle.calls.specs.Answer.{value_if}
use Rattle.calls.specs.Arms.{if_taken}
use Rattle.state_calls.specs.Objective.{Lists, value-in-use, slopes-in-use}
use Rattle.state_calls.specs.StoredTask.{in-use-task}
use borrow.Author.Rules.{rules}
use Rattle.state_calls.proofs.objective.gradient_by.Goals as goal

pub gradient-requires : goal.gradient-requires
gradient-requires c =
    let l : Lists c.args.state = search rules in
    in-use-task c.args.state.arms _ _ l.sizes l.codes l.floats c.lay_task.auto.task c.in_ok-sheet.ensures.sheet

pub returns-clause-value : goal.returns-clause-value
returns-clause-value c =
    let l : Lists c.args.state = search rules in
    c.gradient.ensures.value ∙ ap (value_if (number_of c.gradient.result)) (value-in-use c.args.state _ _ _ l refl c.lay_task.ensures _ c.in_ok-sheet.ensures.sheet c.args.joints.now)

pub returns-clause-slopes : goal.returns-clause-slopes
returns-clause-slopes c =
    let l : Lists c.args.state = search rules in
    let old = c.args.slopes.now in
    c.gradient.ensures.slopes
    ∙ ap (λ (d : List Float). if_taken (number_of c.gradient.result) old (splice old 0 d)) (slopes-in-use c.args.state _ _ _ l refl c.lay_task.ensures _ c.in_ok-sheet.ensures.sheet c.args.joints.now c.args.rule)
