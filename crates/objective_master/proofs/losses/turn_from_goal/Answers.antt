-- `turn_from_goal` meets its contract.
use Rattle.objective_master.specs.Losses.{turn_from_goal, goal_quat}
use Rattle.objective_master.proofs.losses.turn_from_goal.Goals as goal

pub returns : goal.returns
unfolding turn_from_goal goal_quat
returns c = rw (c.scaled_axis.ensures, c.product.ensures, c.inverse-q.ensures, c.get_quat.ensures)
