-- `from_quaternion` meets its contract: each part over the root that `sqrt` ensures.
use Rattle.utils_rust.specs.Transformations.{over_quat, quat_norm, from_quaternion}
use Rattle.utils_rust.proofs.transformations.from_quaternion.Goals as goal

pub returns : goal.returns
unfolding from_quaternion over_quat quat_norm
returns c = rw c.sqrt-norm.ensures.same
