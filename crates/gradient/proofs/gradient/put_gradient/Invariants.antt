-- `put_gradient` meets its contract: turn after turn one slope more, and the block as it came.
use mathlib.Core.Path.{◌≡◌}
use Rattle.lists.specs.Splice.{splice}
use Rattle.lists.specs.Listed.{listed}
use Rattle.task.specs.Task.{given_of}
use Rattle.gradient.specs.Gradient.{slope_at}
use Rattle.gradient.proofs.gradient.put_gradient.Given as goal

abbrev pub invariant-loop-joint : goal.invariant-loop-joint
invariant-loop-joint l =
    (l.scratch ≡ l.initial.scratch) × (l.slopes ≡ splice l.initial.slopes 0 (listed (slope_at l.rule (given_of l.counts l.codes l.task l.picks) l.floats l.initial.scratch) l.joint))
