-- `robot::get_manipulability_immutable` meets its contract: turn after turn one chain more.
use mathlib.Core.Path.{◌≡◌}
use Rattle.sheet.specs.Chain.{chain_start}
use Rattle.manipulability.specs.View.{seen_by}
use Rattle.manipulability.specs.Jacobian.{manipulability_to}
use Rattle.manipulability.proofs.robot.get_manipulability_immutable.Given as goal

abbrev pub invariant-loop-n : goal.invariant-loop-n
invariant-loop-n l = (l.l ≡ chain_start l.counts l.n-index) × (l.out ≡ manipulability_to (seen_by l.poses) l.counts l.codes l.n-index)
