-- `MatchEEPosGoals` and `MatchEEQuatGoals`: what a goal without tolerance costs, of the goal and the end.
use Rattle.std.specs.Prelude.{◌≡◌, refl, false, cond, Float}
use Rattle.std.specs.Float.{nan}
use Rattle.std.specs.Float.Ieee.{neg, lt, eq, ne}
use Rattle.geometry.specs.declared.vector.Vec3.{Vec3}
use Rattle.geometry.specs.declared.quaternion.Quat.{Quat}
use Rattle.geometry.specs.Vector.{sub_of, norm_of}
use Rattle.groove.specs.Loss.{match_ee_pos_goals, match_ee_quat_goals}
use Rattle.utils_rust.specs.Transformations.{from_quaternion, angle_between_quaternion}

-- Rust's `min`: a NaN gives way to a number
unfoldable pub min_of : Float → Float → Float
min_of a b = cond (ne a a) b (cond (lt b a) b a)

-- -q, all four negated
unfoldable pub negative_of : Quat → Quat
negative_of q = record { w = neg q.w; i = neg q.i; j = neg q.j; k = neg q.k }

-- how far the end is from the goal
unfoldable pub distance_from : Vec3 → Vec3 → Float
distance_from goal end = norm_of (sub_of end goal)

-- the smaller of the angles from the goal to the end's rotation as it stands and to its negative, normalised
unfoldable pub angle_from : Quat → Quat → Float
angle_from goal end = min_of (angle_between_quaternion goal end) (angle_between_quaternion goal (from_quaternion (negative_of end)))

-- what these cost
unfoldable pub pos_goals_loss : Vec3 → Vec3 → Float
pos_goals_loss goal end = match_ee_pos_goals (distance_from goal end)

unfoldable pub quat_goals_loss : Quat → Quat → Float
quat_goals_loss goal end = match_ee_quat_goals (angle_from goal end)

-- ---- laws: of a NaN and a number `min` takes the number

pub min-nan-first : (b : Float) → min_of nan b ≡ b
unfolding min_of ne eq
min-nan-first b = refl

pub min-nan-second : (a : Float) → ne a a ≡ false → min_of a nan ≡ a
unfolding min_of lt
min-nan-second a e = rw e
