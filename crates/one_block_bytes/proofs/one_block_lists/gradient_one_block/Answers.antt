-- `gradient_one_block` meets its contract: what an accepted call knows, for either list of poses.
use mathlib.Core.Path.{sym}
use native.Mathlib.Omega.{arith}
use lib.ListN.{length}
use Rattle.lent_bytes.specs.SheetLists.{sheet_with}
use Rattle.objective_bytes.specs.ObjectiveCalls.{task_with}
use Rattle.one_block_bytes.specs.OneBlockLaws.{one-block-fitted, task-counted}
use Rattle.one_block_bytes.proofs.one_block_lists.gradient_one_block.Goals as goal

pub entries-requires : goal.entries-requires
entries-requires c =
    let a = c.args in
    let fitted = one-block-fitted (sheet_with a.sizes.now a.codes.now a.floats.now a.limits.now) (task_with a.goals.now a.history.now a.weights.now a.tools.now) a.block.now
    (length a.value.now) (length a.slopes.now) (length a.record_joints.now) (length a.record_links.now) (length a.record_poses.now) (sym c.in_ok-one_block_refusal.ensures) in
    task-counted (sheet_with a.sizes.now a.codes.now a.floats.now a.limits.now) _ _ _ fitted.accepted.0

pub put_one_block-requires : goal.put_one_block-requires
put_one_block-requires c =
    let a = c.args in
    let fitted = one-block-fitted (sheet_with a.sizes.now a.codes.now a.floats.now a.limits.now) (task_with a.goals.now a.history.now a.weights.now a.tools.now) a.block.now
    (length a.value.now) (length a.slopes.now) (length a.record_joints.now) (length a.record_links.now) (length a.record_poses.now) (sym c.in_ok-one_block_refusal.ensures) in
    record { fitted = fitted; limits_in_bounds = omega (arith, c.if-entries-le80.true, c.entries.ensures) }

pub put_one_block-requires-2 : goal.put_one_block-requires-2
put_one_block-requires-2 c =
    let a = c.args in
    let fitted = one-block-fitted (sheet_with a.sizes.now a.codes.now a.floats.now a.limits.now) (task_with a.goals.now a.history.now a.weights.now a.tools.now) a.block.now
    (length a.value.now) (length a.slopes.now) (length a.record_joints.now) (length a.record_links.now) (length a.record_poses.now) (sym c.in_ok-one_block_refusal.ensures) in
    record { fitted = fitted; limits_in_bounds = omega (arith, fitted.entries) }
