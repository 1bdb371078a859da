-- URDF's prismatic joint, in the order URDF gives: first the joint's frame, which `origin` places, then the motion along the axis, which is written in that frame.
use Rattle.std.specs.Prelude.{ℕ, eqb, Float}
use Rattle.standins.specs.Num.{one}
use Rattle.geometry.specs.declared.vector.Vec3.{Vec3}
use Rattle.geometry.specs.declared.quaternion.Quat.{Quat}
use Rattle.geometry.specs.declared.pose.Pose.{Pose}
use Rattle.geometry.specs.Vector.{add_of, scale_of}
use Rattle.geometry.specs.Quaternion.{rotate_of}
use Rattle.spacetime.specs.Link.{vec_if, offset_of, along_of}

-- the joint's frame: the frame p before it, moved by `origin`'s displacement and turned by its rotation, which is skipped as ever
unfoldable pub joint_frame : Pose → Vec3 → Quat → Pose
joint_frame p d o = record { position = add_of (rotate_of p.rotation d) p.position; rotation = offset_of p.rotation o }

-- frame f moved by v along axis a of its own; it does not turn. Axis none, which URDF has not, does not move
unfoldable pub along_own : Pose → ℕ → Float → Pose
along_own f a v = record { position = vec_if (eqb a 0) f.position (add_of f.position (scale_of (rotate_of f.rotation (along_of a one)) v)); rotation = f.rotation }

-- URDF's prismatic joint of `origin` (d, o) and axis a, at v
unfoldable pub urdf_prismatic : Vec3 → Quat → ℕ → Float → Pose → Pose
urdf_prismatic d o a v p = along_own (joint_frame p d o) a v
