-- transformations.rs: the logarithm of a rotation, and the angle between two; and nalgebra's `from_quaternion`, which `MatchEEQuatGoals` asks for.
use Rattle.std.specs.Prelude.{cond, ◌&&◌, Float}
use Rattle.std.specs.Float.{binary64}
use Rattle.std.specs.Float.Ieee.{of_bits, lt, le}
use Rattle.root.specs.Root.{root_of}
use Rattle.standins.specs.Num.{◌⊕◌, ◌⊗◌, ◌⊘◌, one, two, abs_of}
use Rattle.standins.specs.Series.{sine_of}
use Rattle.geometry.specs.declared.vector.Vec3.{Vec3}
use Rattle.geometry.specs.declared.quaternion.Quat.{Quat}
use Rattle.geometry.specs.Vector.{scale_of, norm_of}
use Rattle.geometry.specs.Quaternion.{product_of, inverse_of, axis_of}
use Rattle.utils_rust.specs.Acos.{acos_of}

-- q over n, component by component
unfoldable pub over_quat : Quat → Float → Quat
over_quat q n = record { w = q.w ⊘ n; i = q.i ⊘ n; j = q.j ⊘ n; k = q.k ⊘ n }

-- the root of the four squares' sum, in the order w, i, j, k
unfoldable pub quat_norm : Quat → Float
quat_norm q = root_of (q.w ⊗ q.w ⊕ q.i ⊗ q.i ⊕ q.j ⊗ q.j ⊕ q.k ⊗ q.k)

-- `from_quaternion`: q over that root
unfoldable pub from_quaternion : Quat → Quat
from_quaternion q = over_quat q (quat_norm q)

-- i, j, k, times a/sin(a) for a = acos(w); as they stand unless |w| < 1 and |sin(a)| >= 0.005
unfoldable pub quaternion_log : Quat → Vec3
quaternion_log q =
    let a = acos_of q.w in
    let sina = sine_of a in
    cond (lt (abs_of q.w) one && le (of_bits binary64 0x3f74_7ae1_47ae_147b) (abs_of sina)) (scale_of (axis_of q) (a ⊘ sina)) (axis_of q)

-- the logarithm of the turn from q to r
unfoldable pub quaternion_disp : Quat → Quat → Vec3
quaternion_disp q r = quaternion_log (product_of (inverse_of q) r)

-- twice its norm
unfoldable pub angle_between_quaternion : Quat → Quat → Float
angle_between_quaternion q r = norm_of (quaternion_disp q r) ⊗ two
