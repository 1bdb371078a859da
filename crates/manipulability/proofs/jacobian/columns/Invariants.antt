-- `columns` meets its contract: turn after turn one link more.
use mathlib.Core.Path.{◌≡◌}
use Prim.Native.Nat.{◌-◌, ◌≤◌}
use Rattle.manipulability.specs.View.{seen_by}
use Rattle.manipulability.specs.Jacobian.{filling_of, after_of}
use Rattle.manipulability.proofs.jacobian.columns.Given as goal

abbrev pub invariant-loop-link : goal.invariant-loop-link
invariant-loop-link l = (l.first ≤ l.link) × (filling_of l.s l.j ≡ after_of (seen_by l.poses) l.codes l.first l.end (l.link - l.first))
