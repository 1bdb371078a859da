-- `angle_between_quaternion` meets its contract: by what its two calls ensure.
use Rattle.utils_rust.specs.Transformations.{angle_between_quaternion}
use Rattle.utils_rust.proofs.transformations.angle_between_quaternion.Goals as goal

pub returns : goal.returns
unfolding angle_between_quaternion
returns c = rw (c.norm.ensures, c.quaternion_disp.ensures)
