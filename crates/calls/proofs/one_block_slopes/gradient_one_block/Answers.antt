-- `gradient_one_block` meets its contract: what is lent is ready, and the slopes' list is as long as the block.
use mathlib.Core.Path.{sym}
use Rattle.calls.specs.AcceptedTask.{ready_of}
use Rattle.calls.specs.OneBlock.{one-block-passed}
use Rattle.calls.proofs.one_block_slopes.gradient_one_block.Goals as goal

pub gradient-v-requires-clause-ready : goal.gradient-v-requires-clause-ready
gradient-v-requires-clause-ready c =
    let p = one-block-passed _ _ _ c.args.slopes.now c.args.record_joints.now c.args.record_links.now c.args.record_poses.now (sym c.in_ok-one_block_refusal.ensures) in
    (ready_of _ _ _ _ _ c.requires p.0, p.1)
