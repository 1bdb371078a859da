-- `put_limits` meets its contract: turn after turn one joint more.
use mathlib.Core.Path.{◌≡◌}
use Rattle.lists.specs.Splice.{splice}
use Rattle.lists.specs.Runs.{runs}
use Rattle.objective_master.specs.Losses.{limit_losses}
use Rattle.objective_master.proofs.losses.put_limits.Given as goal

abbrev pub invariant-loop-j : goal.invariant-loop-j
invariant-loop-j l = l.out ≡ splice l.initial.out l.at (runs (limit_losses l.limits l.x) 0 l.j)
