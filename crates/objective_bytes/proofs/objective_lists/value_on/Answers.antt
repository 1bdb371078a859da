-- `value_on` meets its contract: the objective of what the history and the sheet give.
use mathlib.Core.Path.{◌≡◌, refl, ap, ◌∙◌}
use mathlib.Core.List.{List}
use native.Mathlib.Omega.{arith}
use lib.Ieee.{Float}
use lib.ListN.{length}
use Rattle.gradient.specs.Gradient.{value_at}
use Rattle.lent_bytes.specs.SheetLists.{SheetLists, sheet_with}
use Rattle.objective_bytes.specs.ObjectiveCalls.{TaskLists, task_with, value_in}
use Rattle.objective_bytes.specs.ObjectiveLaws.{Taken, task-taken, fit-taken, laid-taken, ready-taken}
use borrow.Author.Rules.{rules}
use Rattle.objective_bytes.proofs.objective_lists.value_on.Goals as goal

pub lay_lent-requires : goal.lay_lent-requires
lay_lent-requires c =
    let sheet : SheetLists = sheet_with c.args.sizes.now c.args.codes.now c.args.floats.now c.args.limits.now in
    let task : TaskLists = task_with c.args.goals.now c.args.history.now c.args.weights.now c.args.tools.now in
    let joints : List Float = c.args.joints.now in
    let known : Taken (sheet) (task) (joints) = task-taken (sheet) (task) (joints) c.requires in
    let four : length (task).tools ≡ 32 = search rules in
    let t = known in record {
      task_len = refl;
      joints_bound = (omega (arith, t.block, t.few), omega (arith, t.block, t.blocks));
      fit = fit-taken _ _ _ t (four);
    }

pub objective-requires : goal.objective-requires
objective-requires c =
    let sheet : SheetLists = sheet_with c.args.sizes.now c.args.codes.now c.args.floats.now c.args.limits.now in
    let task : TaskLists = task_with c.args.goals.now c.args.history.now c.args.weights.now c.args.tools.now in
    let joints : List Float = c.args.joints.now in
    let known : Taken (sheet) (task) (joints) = task-taken (sheet) (task) (joints) c.requires in
    let four : length (task).tools ≡ 32 = search rules in
    ready-taken (sheet) _ _ (known) (four) _ _ c.links-counts.ensures c.lay_lent.auto.task

pub returns : goal.returns
unfolding value_in
returns c =
    let sheet : SheetLists = sheet_with c.args.sizes.now c.args.codes.now c.args.floats.now c.args.limits.now in
    let task : TaskLists = task_with c.args.goals.now c.args.history.now c.args.weights.now c.args.tools.now in
    let joints : List Float = c.args.joints.now in
    let known : Taken (sheet) (task) (joints) = task-taken (sheet) (task) (joints) c.requires in
    let four : length (task).tools ≡ 32 = search rules in
    c.objective.ensures
    ∙ ap (λ g. value_at g c.args.floats.now (joints)) (laid-taken (sheet) _ _ (known) (four) _ _ _ _ c.links-counts.ensures refl c.lay_lent.ensures)
