-- `joint_changes` meets its contract. The loop keeps the three sums of squares over the joints so far.
use mathlib.Core.Path.{◌≡◌}
use Rattle.groove.specs.Loss.{velocity_at, acceleration_at, jerk_at, squares_to}
use Rattle.groove.proofs.objective.joint_changes.Given as goal

abbrev pub invariant-loop-i : goal.invariant-loop-i
invariant-loop-i l =
    (l.velocity ≡ squares_to (velocity_at l.x l.xopt) l.i)
    × (l.acceleration ≡ squares_to (acceleration_at l.x l.xopt l.prev_state) l.i)
    × (l.jerk ≡ squares_to (jerk_at l.x l.xopt l.prev_state l.prev_state2) l.i)
