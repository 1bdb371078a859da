-- What a telescoping link ends at is URDF's prismatic joint.
use Rattle.std.specs.Prelude.{◌≡◌, List, ℕ, ◌+◌, ◌*◌, ◌≤◌, Float, get_or}
use Rattle.std.proofs.Math.Path.{refl}
use Rattle.std.proofs.Common.{◌∙◌, arith, ne_eqb}
use Rattle.std.specs.Float.{nan}
use Rattle.geometry.specs.declared.vector.Vec3.{Vec3}
use Rattle.geometry.specs.declared.quaternion.Quat.{Quat}
use Rattle.geometry.specs.declared.pose.Pose.{Pose}
use Rattle.sheet.specs.declared.code.Kind.{Kind}
use Rattle.sheet.specs.declared.code.Kind.TheVariants.{Fixed, Telescoping}
use Rattle.sheet.specs.Code.{has_joint, kind_of, telescoping-code}
use Rattle.sheet.specs.Read.{kind_at}
use Rattle.sheet.specs.Chain.{joint_of}
use Rattle.spacetime.specs.Link.{joint_turn, turned_by, carried_of, own_axis_of, telescoped_of, moved_of, extended_of, link_of}
use Rattle.spacetime.specs.Floats.{vec_at, quat_at}
use Rattle.spacetime.specs.Walk.{value_of, after_link, before_of, pose_of}
use Rattle.spacetime.specs.Urdf.{joint_frame, along_own, urdf_prismatic}

module _ (d : Vec3) (o : Quat) (v : Float) (p : Pose) where
  -- the joint's frame is where a fixed link ends
  pub frame-fixed : joint_frame p d o ≡ link_of Fixed d o v p
  unfolding joint_frame link_of moved_of extended_of carried_of turned_by joint_turn
  frame-fixed = refl

  -- the step of a telescoping link is URDF's
  pub telescoping-urdf : (a : ℕ) → link_of (Telescoping a) d o v p ≡ urdf_prismatic d o a v p
  unfolding link_of urdf_prismatic joint_frame along_own moved_of extended_of carried_of telescoped_of own_axis_of turned_by joint_turn
  telescoping-urdf a = refl

  -- without axis it is that of a fixed link
  pub telescoping-none : link_of (Telescoping 0) d o v p ≡ link_of Fixed d o v p
  unfolding link_of moved_of extended_of carried_of telescoped_of turned_by joint_turn
  telescoping-none = refl

-- a link of code c, which has a joint, and kind k, in a sheet: its joint's value is read from the block
pub after-code : (cs : List ℕ) (gs x : List Float) (p : Pose) (l j c : ℕ) (k : Kind) → (c ≡ 0 → ⊥) → get_or cs l 0 ≡ c → kind_of c ≡ k
    → after_link cs gs x p l j ≡ link_of k (vec_at gs (7 * l)) (quat_at gs (7 * l + 3)) (get_or x j nan) p
unfolding after_link kind_at value_of has_joint
after-code cs gs x p l j c k n e q = rw (e, q, ne_eqb c 0 n)

-- the pose after a link of code 40 to 46, in the walk of block x
pub code-urdf : (ns cs : List ℕ) (gs x : List Float) (l a : ℕ) → a ≤ 6 → get_or cs l 0 ≡ 40 + a
    → pose_of ns cs gs x l ≡ urdf_prismatic (vec_at gs (7 * l)) (quat_at gs (7 * l + 3)) a (get_or x (joint_of cs l) nan) (before_of ns cs gs x l)
unfolding pose_of
code-urdf ns cs gs x l a h e =
    let p = before_of ns cs gs x l in
    after-code cs gs x p l (joint_of cs l) (40 + a) (Telescoping a) (λ (z : 40 + a ≡ 0). omega arith) e (telescoping-code a h)
    ∙ telescoping-urdf (vec_at gs (7 * l)) (quat_at gs (7 * l + 3)) (get_or x (joint_of cs l) nan) p a
