-- `quat_goals_loss` meets its contract: by what its two calls ensure.
use Rattle.objective_master.specs.Strict.{quat_goals_loss}
use Rattle.objective_master.proofs.strict.quat_goals_loss.Goals as goal

pub returns : goal.returns
unfolding quat_goals_loss
returns c = rw (c.match_ee_quat_goals.ensures, c.angle_from.ensures)
