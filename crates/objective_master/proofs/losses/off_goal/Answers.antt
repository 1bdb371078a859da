-- `off_goal` meets its contract.
use Rattle.objective_master.specs.Losses.{off_goal, goal_quat, goal_position}
use Rattle.objective_master.proofs.losses.off_goal.Goals as goal

pub returns : goal.returns
unfolding off_goal goal_quat goal_position
returns c = rw (c.rotate.ensures, c.sub.ensures, c.get_vec.ensures, c.inverse-q.ensures, c.get_quat.ensures)
