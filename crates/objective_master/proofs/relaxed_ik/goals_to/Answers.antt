-- `goals_to` meets its contract, by either width.
use mathlib.Core.Path.{sym, ap}
use mathlib.Core.Bool.{Bool}
use Prim.Native.Nat.{◌*◌}
use native.Mathlib.Omega.{arith}
use Rattle.objective_master.specs.Objective.{goal_width}
use Rattle.objective_master.proofs.relaxed_ik.goals_to.Goals as goal

pub returns-then-picks : goal.returns-then-picks
unfolding goal_width
returns-then-picks c = (ap (λ (s : Bool). c.args.chains * goal_width s) (sym c.if-picks.true), omega arith)

pub returns : goal.returns
unfolding goal_width
returns c = (ap (λ (s : Bool). c.args.chains * goal_width s) (sym c.if-picks.false), omega arith)
