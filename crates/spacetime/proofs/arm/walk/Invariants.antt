-- `walk` meets its contract: turn after turn one pose more.
use mathlib.Core.Path.{◌≡◌}
use Rattle.lists.specs.Splice.{splice}
use Rattle.lists.specs.Runs.{runs}
use Rattle.sheet.specs.Chain.{joint_of}
use Rattle.spacetime.specs.Walk.{start_of, before_of, poses}
use Rattle.spacetime.proofs.arm.walk.Given as goal

abbrev pub invariant-loop-at : goal.invariant-loop-at
invariant-loop-at l =
    (l.joint ≡ joint_of l.codes l.at) × (start_of l.counts l.at l.p ≡ before_of l.counts l.codes l.floats l.block l.at)
    × (l.out ≡ splice l.initial.out 0 (runs (poses l.counts l.codes l.floats l.block) 0 l.at))
