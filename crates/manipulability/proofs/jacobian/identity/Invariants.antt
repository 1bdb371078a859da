-- `identity` meets its contract: turn after turn one float more.
use mathlib.Core.Path.{◌≡◌}
use Rattle.lists.specs.Splice.{splice}
use Rattle.lists.specs.Listed.{listed}
use Rattle.manipulability.specs.Jacobian.{unit_of}
use Rattle.manipulability.proofs.jacobian.identity.Given as goal

abbrev pub invariant-loop-i : goal.invariant-loop-i
invariant-loop-i l = l.j ≡ splice l.initial.j 0 (listed unit_of l.i)
