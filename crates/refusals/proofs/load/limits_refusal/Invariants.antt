-- `load::limits_refusal` meets its contract. The loop carries the answer for the joints passed.
use mathlib.Core.Path.{◌≡◌}
use Rattle.refusals.specs.Range.{every}
use Rattle.refusals.specs.Refusal.{limits_fit}
use Rattle.refusals.proofs.load.limits_refusal.Given as goal

abbrev pub invariant-loop-j : goal.invariant-loop-j
invariant-loop-j l = l.ok ≡ every (limits_fit l.limits) l.j
