-- `link_positions` meets its contract: turn after turn one link more.
use mathlib.Core.Path.{◌≡◌}
use Rattle.lists.specs.Splice.{splice}
use Rattle.lists.specs.Runs.{runs}
use Rattle.spacetime.specs.Walk.{list_pose}
use Rattle.spacetime.specs.Frames.{position_at}
use Rattle.spacetime.proofs.frames.link_positions.Given as goal

abbrev pub invariant-loop-i : goal.invariant-loop-i
invariant-loop-i l = (l.out ≡ splice l.initial.out l.at (runs (position_at (list_pose l.poses)) l.from l.i))
