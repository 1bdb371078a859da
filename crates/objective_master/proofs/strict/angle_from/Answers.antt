-- `angle_from` meets its contract: the smaller of the two angles that its calls ensure.
use Rattle.objective_master.specs.Strict.{angle_from}
use Rattle.objective_master.proofs.strict.angle_from.Goals as goal

pub returns : goal.returns
unfolding angle_from
returns c = rw (c.min.ensures, c.angle_between_quaternion-disp2.ensures, c.angle_between_quaternion-disp.ensures, c.from_quaternion-ee_quat2.ensures, c.negative.ensures)
