-- `lent::weights_refusal` meets its contract. The loop carries the answer for the weights passed.
use mathlib.Core.Path.{◌≡◌}
use Rattle.refusals.specs.Range.{every}
use Rattle.refusals.specs.Refusal.{weight_fits_at}
use Rattle.refusals.proofs.lent.weights_refusal.Given as goal

abbrev pub invariant-loop-weight : goal.invariant-loop-weight
invariant-loop-weight l = l.ok ≡ every (weight_fits_at l.weights) l.weight-index
