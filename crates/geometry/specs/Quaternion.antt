-- Quaternions, w first.
use Rattle.std.specs.Prelude.{cond, Float}
use Rattle.std.specs.Float.Ieee.{neg, lt, eq}
use Rattle.standins.specs.Num.{◌⊕◌, ◌⊖◌, ◌⊗◌, nought, half, one, two, abs_of}
use Rattle.standins.specs.Series.{sine_of, cosine_of, atan2_of}
use Rattle.geometry.specs.declared.vector.Vec3.{Vec3}
use Rattle.geometry.specs.declared.quaternion.Quat.{Quat}
use Rattle.geometry.specs.Vector.{zero_of, add_of, negate_of, scale_of, over_of, cross_of, norm_of}

abbrev pub quat : Float → Float → Float → Float → Quat
quat w i j k = record { w = w; i = i; j = j; k = k }

-- the product a·b
unfoldable pub product_of : Quat → Quat → Quat
product_of a b = record {
  w = a.w ⊗ b.w ⊖ a.i ⊗ b.i ⊖ a.j ⊗ b.j ⊖ a.k ⊗ b.k;
  i = a.w ⊗ b.i ⊕ a.i ⊗ b.w ⊕ a.j ⊗ b.k ⊖ a.k ⊗ b.j;
  j = a.w ⊗ b.j ⊖ a.i ⊗ b.k ⊕ a.j ⊗ b.w ⊕ a.k ⊗ b.i;
  k = a.w ⊗ b.k ⊕ a.i ⊗ b.j ⊖ a.j ⊗ b.i ⊕ a.k ⊗ b.w;
}

-- i, j, k negated
unfoldable pub inverse_of : Quat → Quat
inverse_of q = record { w = q.w; i = neg q.i; j = neg q.j; k = neg q.k }

-- u: i, j, k
unfoldable pub axis_of : Quat → Vec3
axis_of q = record { x = q.i; y = q.j; z = q.k }

-- 2·v
unfoldable pub twice_of : Vec3 → Vec3
twice_of v = record { x = two ⊗ v.x; y = two ⊗ v.y; z = two ⊗ v.z }

-- rotating v: t = 2·(u cross v), then t·w + (u cross t) + v
unfoldable pub rotate_of : Quat → Vec3 → Vec3
rotate_of q v =
    let u = axis_of q in
    let t = twice_of (cross_of u v) in
    add_of (add_of (scale_of t q.w) (cross_of u t)) v

-- no turn
unfoldable pub identity_of : Quat
identity_of = record { w = one; i = nought; j = nought; k = nought }

-- `from_euler_angles` with one angle v, about x: cosine of v·0.5 in w, sine at that axis, +0 elsewhere
unfoldable pub quat_x_of : Float → Quat
quat_x_of v = record { w = cosine_of (v ⊗ half); i = sine_of (v ⊗ half); j = nought; k = nought }

-- the same about y
unfoldable pub quat_y_of : Float → Quat
quat_y_of v = record { w = cosine_of (v ⊗ half); i = nought; j = sine_of (v ⊗ half); k = nought }

-- and about z
unfoldable pub quat_z_of : Float → Quat
quat_z_of v = record { w = cosine_of (v ⊗ half); i = nought; j = nought; k = sine_of (v ⊗ half) }

-- u, negated if w < 0
unfoldable pub turn_axis_of : Quat → Vec3
turn_axis_of q = cond (lt q.w nought) (negate_of (axis_of q)) (axis_of q)

-- u, negated if w < 0, over the norm of u, times 2·atan2(norm, |w|); norm 0 gives zeros
unfoldable pub scaled_axis_of : Quat → Vec3
scaled_axis_of q =
    let norm = norm_of (axis_of q) in
    cond (eq norm nought) zero_of
    (scale_of (over_of (turn_axis_of q) norm) (two ⊗ atan2_of norm (abs_of q.w)))
