-- `weighted_sum` meets its contract: turn after turn one term more.
use mathlib.Core.Path.{◌≡◌}
use lib.ListN.{length}
use Rattle.standins.specs.Num.{nought}
use Rattle.objective_master.specs.Weights.{sum_to, term_at}
use Rattle.objective_master.proofs.weights.weighted_sum.Given as goal

abbrev pub invariant-loop-kind : goal.invariant-loop-kind
invariant-loop-kind l = l.s ≡ sum_to (term_at l.weights l.kinds l.values) nought (length l.yielded)
