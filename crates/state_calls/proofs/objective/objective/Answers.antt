-- `objective` meets its contract: the list is laid of the state's arrays.
use mathlib.Core.Path.{refl, ap, ◌∙◌}
use Rattle.refusals.specs.Number.{number_of}
use Rattle.calls.specs.Answer.{value_if}
use Rattle.state_calls.specs.Objective.{Lists, value-in-use}
use Rattle.state_calls.specs.StoredTask.{in-use-task}
use borrow.Author.Rules.{rules}
use Rattle.state_calls.proofs.objective.objective.Goals as goal

pub objective-requires : goal.objective-requires
objective-requires c =
    let l : Lists c.args.state = search rules in
    in-use-task c.args.state.arms _ _ l.sizes l.codes l.floats c.lay_task.auto.task c.in_ok-sheet.ensures.sheet

pub returns-clause-value : goal.returns-clause-value
returns-clause-value c =
    let l : Lists c.args.state = search rules in
    c.objective.ensures.value ∙ ap (value_if (number_of c.objective.result)) (value-in-use c.args.state _ _ _ l refl c.lay_task.ensures _ c.in_ok-sheet.ensures.sheet c.args.joints.now)
