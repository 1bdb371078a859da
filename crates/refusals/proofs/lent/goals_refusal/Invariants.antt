-- `lent::goals_refusal` meets its contract. The loop carries the answer for the chains passed.
use mathlib.Core.Path.{◌≡◌}
use Rattle.refusals.specs.Range.{every}
use Rattle.refusals.specs.Refusal.{goal_fits}
use Rattle.refusals.proofs.lent.goals_refusal.Given as goal

abbrev pub invariant-loop-c : goal.invariant-loop-c
invariant-loop-c l = l.ok ≡ every (goal_fits l.goals) l.c
