-- `each_joint_limits` meets its contract: its loss, evaluated.
use Rattle.groove.specs.Loss.{each_joint_limits}
use Rattle.groove.proofs.objective.each_joint_limits.Goals as goal

pub returns : goal.returns
unfolding each_joint_limits
returns c = rw (c.evaluate.ensures, c.limits_loss.ensures)
