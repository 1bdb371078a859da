-- `one_block_on` meets its contract: the gradient and the record of what the history and the sheet give.
use mathlib.Core.Path.{◌≡◌, refl, ap, ◌∙◌}
use mathlib.Core.List.{List}
use Prim.Native.Nat.{ℕ}
use native.Mathlib.Omega.{arith}
use lib.Ieee.{Float}
use lib.ListN.{length}
use Rattle.lists.specs.Splice.{splice}
use Rattle.gradient.specs.Gradient.{value_at, gradient_of}
use Rattle.one_block.specs.Record.{entries_of, record_joints, record_links, record_poses}
use Rattle.lent_bytes.specs.SheetLists.{SheetLists, sheet_with}
use Rattle.objective_bytes.specs.ObjectiveCalls.{TaskLists, task_with, value_in, slopes_in}
use Rattle.objective_bytes.specs.ObjectiveLaws.{Taken, task-taken, fit-taken, laid-taken, ready-taken}
use Rattle.one_block_bytes.specs.OneBlockCalls.{entries_in, record_joints_in, record_links_in, record_poses_in}
use Rattle.one_block_bytes.specs.OneBlockLaws.{task-counted}
use borrow.Author.Rules.{rules}
use Rattle.one_block_bytes.proofs.one_block_lists.one_block_on.Goals as goal

pub lay_lent-requires : goal.lay_lent-requires
lay_lent-requires c =
    let sheet : SheetLists = sheet_with c.args.sizes.now c.args.codes.now c.args.floats.now c.args.limits.now in
    let block : List Float = c.args.block.now in
    let task : TaskLists = task_with c.args.goals.now c.args.history.now c.args.weights.now c.args.tools.now in
    let known : Taken (sheet) (task) (block) = task-taken (sheet) _ (block) c.requires.passed in
    let four : length (task).tools ≡ 32 = search rules in
    let t = known in record {
      task_len = refl;
      joints_bound = (omega (arith, t.block, t.few), omega (arith, t.block, t.blocks));
      fit = fit-taken _ _ _ t (four);
    }

pub gradient-requires : goal.gradient-requires
gradient-requires c =
    let sheet : SheetLists = sheet_with c.args.sizes.now c.args.codes.now c.args.floats.now c.args.limits.now in
    let block : List Float = c.args.block.now in
    let task : TaskLists = task_with c.args.goals.now c.args.history.now c.args.weights.now c.args.tools.now in
    let known : Taken (sheet) (task) (block) = task-taken (sheet) _ (block) c.requires.passed in
    let counted : entries_of c.links-counts.result.now c.args.codes.now ≡ entries_in (sheet) = ap (λ (ns : List ℕ). entries_of ns c.args.codes.now) c.links-counts.ensures in
    let four : length (task).tools ≡ 32 = search rules in
    let t = known in
    let n = counted in
    let m = (task-counted (sheet) _ _ _ c.requires.passed.0).entries in record {
      ready = (ready-taken (sheet) _ _ t (four) _ _ c.links-counts.ensures c.lay_lent.auto.task, omega (arith, c.requires.slopes_len, t.block, t.few));
      room = record { joints-room = omega (arith, n, m, c.requires.slopes_len); links-room = omega (arith, n, m, c.requires.slopes_len); frames-room = omega (arith, n, c.requires.limits_in_bounds) };
    }

pub returns : goal.returns
unfolding value_in slopes_in record_joints_in record_links_in record_poses_in
returns c =
    let sheet : SheetLists = sheet_with c.args.sizes.now c.args.codes.now c.args.floats.now c.args.limits.now in
    let block : List Float = c.args.block.now in
    let task : TaskLists = task_with c.args.goals.now c.args.history.now c.args.weights.now c.args.tools.now in
    let known : Taken (sheet) (task) (block) = task-taken (sheet) _ (block) c.requires.passed in
    let four : length (task).tools ≡ 32 = search rules in
    let a = c.args in
    let cs = a.codes.now in
    let l = c.links-counts.ensures in
    let g = laid-taken (sheet) _ _ (known) (four) _ _ _ _ l refl c.lay_lent.ensures in record {
      value = c.gradient.ensures.value ∙ ap (λ g'. value_at g' a.floats.now (block)) g;
      block_unchanged = c.gradient.ensures.block_after;
      slopes_after = c.gradient.ensures.grad_after ∙ ap (λ g'. splice a.slopes.now 0 (gradient_of g' a.floats.now (block))) g;
      record_held = (
        c.gradient.ensures.joints_after.0 ∙ ap (λ (ns : List ℕ). splice a.record_joints.now 0 (record_joints ns cs)) l,
        c.gradient.ensures.joints_after.1 ∙ ap (λ (ns : List ℕ). splice a.record_links.now 0 (record_links ns cs)) l,
        c.gradient.ensures.frames_after ∙ ap (λ (ns : List ℕ). splice a.record_poses.now 0 (record_poses ns cs a.floats.now (block))) l,
      );
    }
