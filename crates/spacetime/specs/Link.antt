-- The link step of arm.rs, and of document 02's telescoping links: the pose after a link, from the pose before it.
use Rattle.std.specs.Prelude.{Bool, true, false, cond, ◌&&◌, ℕ, ◌%◌, eqb, ltb, Float}
use Rattle.std.specs.Float.Ieee.{neg, eq}
use Rattle.standins.specs.Num.{nought, one}
use Rattle.geometry.specs.declared.vector.Vec3.{Vec3}
use Rattle.geometry.specs.declared.quaternion.Quat.{Quat}
use Rattle.geometry.specs.declared.pose.Pose.{Pose}
use Rattle.geometry.specs.Vector.{add_of, scale_of}
use Rattle.geometry.specs.Quaternion.{identity_of, product_of, rotate_of, quat_x_of, quat_y_of, quat_z_of}
use Rattle.sheet.specs.declared.code.Kind.{Kind}
use Rattle.sheet.specs.declared.code.Kind.TheVariants.{Fixed, Turning, Sliding, Telescoping, Unlisted}

abbrev pub vec_if : Bool → Vec3 → Vec3 → Vec3
vec_if true a b = a
vec_if false a b = b

abbrev pub quat_if : Bool → Quat → Quat → Quat
quat_if true a b = a
quat_if false a b = b

-- an offset whose i, j, k are all 0 turns nothing, w = -1 included
unfoldable pub is_none : Quat → Bool
is_none o = eq o.i nought && eq o.j nought && eq o.k nought

-- it is skipped
unfoldable pub offset_of : Quat → Quat → Quat
offset_of q o = quat_if (is_none o) q (product_of q o)

-- a joint's value along its axis: axes 4 to 6 are the negatives
unfoldable pub signed_by : ℕ → Float → Float
signed_by a v = cond (ltb 3 a) (neg v) v

-- v along axis a: axes 1 and 4 are x, 2 and 5 y, 3 and 6 z
unfoldable pub along_of : ℕ → Float → Vec3
along_of a v =
    vec_if (eqb (a % 3) 1) (record { x = signed_by a v; y = nought; z = nought })
    (vec_if (eqb (a % 3) 2) (record { x = nought; y = signed_by a v; z = nought })
    (record { x = nought; y = nought; z = signed_by a v }))

-- a turn by v about axis a
unfoldable pub turn_of : ℕ → Float → Quat
turn_of a v =
    quat_if (eqb (a % 3) 1) (quat_x_of (signed_by a v))
    (quat_if (eqb (a % 3) 2) (quat_y_of (signed_by a v))
    (quat_z_of (signed_by a v)))

-- a joint's turn at v, which axis none takes no notice of (`about_of`); a link that does not turn has none to add
unfoldable pub joint_turn : Kind → Float → Quat
joint_turn Fixed v = identity_of
joint_turn Unlisted v = identity_of
joint_turn (Turning a) v = turn_of a v
joint_turn (Sliding a) v = identity_of
joint_turn (Telescoping a) v = identity_of

-- axis none does not turn
unfoldable pub about_of : ℕ → Quat → Quat → Quat
about_of a q t = quat_if (eqb a 0) q (product_of q t)

-- q turned by the turn t of a link's joint: only a revolute or continuous one turns
unfoldable pub turned_by : Kind → Quat → Quat → Quat
turned_by Fixed q t = q
turned_by Unlisted q t = q
turned_by (Turning a) q t = about_of a q t
turned_by (Sliding a) q t = q
turned_by (Telescoping a) q t = q

-- the point moved by the displacement, as the pose turns it
unfoldable pub carried_of : Pose → Vec3 → Vec3
carried_of p d = add_of (rotate_of p.rotation d) p.position

-- a prismatic joint's move by v: along the base's axis a, unrotated, from where the displacement carries it; with axis none it stays at the point before
unfoldable pub slid_of : Vec3 → Vec3 → ℕ → Float → Vec3
slid_of before carried a v = vec_if (eqb a 0) before (add_of carried (along_of a v))

-- the unit vector of axis a, as the rotation q turns it
unfoldable pub own_axis_of : Quat → ℕ → Vec3
own_axis_of q a = rotate_of q (along_of a one)

-- a telescoping joint's move by v, from where the displacement carries it: along its own axis, which the rotation q after the link turns; with axis none it moves no further
unfoldable pub telescoped_of : Vec3 → Quat → ℕ → Float → Vec3
telescoped_of carried q a v = vec_if (eqb a 0) carried (add_of carried (scale_of (own_axis_of q a) v))

-- the point after a link of displacement d, its joint at v, but for a move along the link's own axis
unfoldable pub moved_of : Kind → Pose → Vec3 → Float → Vec3
moved_of Fixed p d v = carried_of p d
moved_of Unlisted p d v = carried_of p d
moved_of (Turning a) p d v = carried_of p d
moved_of (Sliding a) p d v = slid_of p.position (carried_of p d) a v
moved_of (Telescoping a) p d v = carried_of p d

-- that move, from the point c, q being the rotation after the link: only a telescoping joint makes it
unfoldable pub extended_of : Kind → Vec3 → Quat → Float → Vec3
extended_of Fixed c q v = c
extended_of Unlisted c q v = c
extended_of (Turning a) c q v = c
extended_of (Sliding a) c q v = c
extended_of (Telescoping a) c q v = telescoped_of c q a v

-- the pose after a link of displacement d and offset o, its joint at v
unfoldable pub link_of : Kind → Vec3 → Quat → Float → Pose → Pose
link_of kind d o v p =
    let q = turned_by kind (offset_of p.rotation o) (joint_turn kind v) in
    record { position = extended_of kind (moved_of kind p d v) q v; rotation = q }
