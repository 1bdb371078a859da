-- `quaternion_disp` meets its contract: by what its three calls ensure.
use Rattle.utils_rust.specs.Transformations.{quaternion_disp}
use Rattle.utils_rust.proofs.transformations.quaternion_disp.Goals as goal

pub returns : goal.returns
unfolding quaternion_disp
returns c = rw (c.quaternion_log.ensures, c.product.ensures, c.inverse.ensures)
