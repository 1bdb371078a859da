-- `put_goals` meets its contract: turn after turn the goal of one chain more.
use mathlib.Core.Path.{◌≡◌}
use Rattle.lists.specs.Splice.{splice}
use Rattle.lists.specs.Runs.{runs}
use Rattle.sheet.specs.Chain.{chain_start}
use Rattle.manipulability.specs.View.{seen_by}
use Rattle.objective_master.specs.Losses.{goal_losses}
use Rattle.objective_master.proofs.losses.put_goals.Given as goal

abbrev pub invariant-loop-c : goal.invariant-loop-c
invariant-loop-c l =
    (l.l ≡ chain_start l.counts l.c)
    × (l.out ≡ splice l.initial.out 0 (runs (goal_losses l.picks.strict l.counts l.goals l.tools (seen_by l.poses)) 0 l.c))
