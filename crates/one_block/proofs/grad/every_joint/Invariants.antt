-- `every_joint` meets its contract: link after link what its joint's copy adds.
use mathlib.Core.Path.{◌≡◌}
use Prim.Native.Nat.{◌+◌, ◌*◌}
use lib.ListN.{length}
use Rattle.lists.specs.Splice.{splice}
use Rattle.lists.specs.Runs.{runs}
use Rattle.lists.specs.Listed.{listed}
use Rattle.sheet.specs.Chain.{joint_of}
use Rattle.task.specs.Task.{given_of}
use Rattle.gradient.specs.Gradient.{gradient_at}
use Rattle.one_block.specs.Record.{again_of, joint_entry, link_entry, pose_entry, again_below, Meets}
use Rattle.one_block.proofs.grad.every_joint.Given as goal

abbrev pub invariant-loop-link : goal.invariant-loop-link
invariant-loop-link l =
    Meets l.counts l.codes l.floats l.initial.block l.link l.p × (l.p.at ≡ length l.codes + again_below l.counts l.codes l.link) × (l.block ≡ l.initial.block)
    × (l.joints ≡ splice l.initial.joints (length l.codes) (runs (again_of joint_entry l.counts l.codes) 0 l.link))
    × (l.links ≡ splice l.initial.links (length l.codes) (runs (again_of link_entry l.counts l.codes) 0 l.link))
    × (l.frames ≡ splice l.initial.frames (7 * length l.codes) (runs (again_of (pose_entry l.counts l.codes l.floats l.initial.block) l.counts l.codes) 0 l.link))
    × (l.grad ≡ splice l.initial.grad 0 (listed (gradient_at (given_of l.counts l.codes l.task l.picks) l.floats l.initial.block) (joint_of l.codes l.link)))
