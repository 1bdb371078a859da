-- `put_goals` meets its contract: turn after turn one chain more.
use mathlib.Core.Path.{◌≡◌}
use Rattle.lists.specs.Splice.{splice}
use Rattle.lists.specs.Runs.{runs}
use Rattle.objective_master.specs.Kinds.{goal_kinds}
use Rattle.objective_master.proofs.relaxed_ik.put_goals.Given as goal

abbrev pub invariant-loop-c : goal.invariant-loop-c
invariant-loop-c l = l.kinds ≡ splice l.initial.kinds 0 (runs (λ _. goal_kinds l.picks.strict) 0 l.c)
