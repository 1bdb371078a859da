-- The components of vectors and quaternions by number.
use Rattle.std.specs.Prelude.{cond, ℕ, eqb, Float}
use Rattle.std.specs.Float.{nan}
use Rattle.geometry.specs.declared.vector.Vec3.{Vec3}
use Rattle.geometry.specs.declared.quaternion.Quat.{Quat}
use Rattle.geometry.specs.Quaternion.{quat_x_of, quat_y_of, quat_z_of}

-- 0 to 2 for x, y, z; any other is a NaN
unfoldable pub vec_part : Vec3 → ℕ → Float
vec_part v n = cond (eqb n 0) v.x (cond (eqb n 1) v.y (cond (eqb n 2) v.z nan))

-- 0 to 3 for w, i, j, k; any other is a NaN
unfoldable pub quat_part : Quat → ℕ → Float
quat_part q n = cond (eqb n 0) q.w (cond (eqb n 1) q.i (cond (eqb n 2) q.j (cond (eqb n 3) q.k nan)))

-- a component of a turn by v about axis 0 to 2 for x, y, z; any other is a NaN
unfoldable pub get_quat_part : ℕ → Float → ℕ → Float
get_quat_part a v n =
    cond (eqb a 0) (quat_part (quat_x_of v) n) (cond (eqb a 1) (quat_part (quat_y_of v) n) (cond (eqb a 2) (quat_part (quat_z_of v) n) nan))
