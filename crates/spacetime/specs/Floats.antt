-- Vectors, quaternions and poses in lists of floats.
use Rattle.std.specs.Prelude.{◌≡◌, refl, List, [], ◌∷◌, ◌++◌, ℕ, ◌+◌, ◌<◌, Float, get_or, length}
use Rattle.std.proofs.Common.{add-zero, arith}
use Rattle.std.specs.Float.{nan}
use Rattle.geometry.specs.declared.vector.Vec3.{Vec3}
use Rattle.geometry.specs.declared.quaternion.Quat.{Quat}
use Rattle.geometry.specs.declared.pose.Pose.{Pose}

-- the floats from at, as a vector
unfoldable pub vec_at : List Float → ℕ → Vec3
vec_at l at = record { x = get_or l at nan; y = get_or l (at + 1) nan; z = get_or l (at + 2) nan }

-- as a quaternion, w first
unfoldable pub quat_at : List Float → ℕ → Quat
quat_at l at = record { w = get_or l at nan; i = get_or l (at + 1) nan; j = get_or l (at + 2) nan; k = get_or l (at + 3) nan }

-- as a pose: position, then rotation
unfoldable pub pose_at : List Float → ℕ → Pose
pose_at l at = record { position = vec_at l at; rotation = quat_at l (at + 3) }

unfoldable pub flat_vec : Vec3 → List Float
flat_vec v = v.x ∷ v.y ∷ v.z ∷ []

unfoldable pub flat_quat : Quat → List Float
flat_quat q = q.w ∷ q.i ∷ q.j ∷ q.k ∷ []

unfoldable pub flat : Pose → List Float
flat p = flat_vec p.position ++ flat_quat p.rotation

-- ---- laws
pub vec-length : (v : Vec3) → length (flat_vec v) ≡ 3
unfolding flat_vec
vec-length v = refl

pub quat-length : (q : Quat) → length (flat_quat q) ≡ 4
unfolding flat_quat
quat-length q = refl

pub flat-length : (p : Pose) → length (flat p) ≡ 7
unfolding flat flat_vec flat_quat
flat-length p = refl

-- a pose is read float by float
pub pose-is : (l : List Float) (at : ℕ) (p : Pose) → ((r : ℕ) → r < 7 → get_or l (at + r) nan ≡ get_or (flat p) r nan) → pose_at l at ≡ p
unfolding pose_at vec_at quat_at flat flat_vec flat_quat
pose-is l at p h =
    let h0 : get_or l at nan ≡ p.position.x = rw add-zero at (h 0 (omega arith)) in
    let e1 : at + 3 + 1 ≡ at + 4 = omega arith in
    let e2 : at + 3 + 2 ≡ at + 5 = omega arith in
    let e3 : at + 3 + 3 ≡ at + 6 = omega arith in
    rw (e1, e2, e3, h0, h 1 (omega arith), h 2 (omega arith), h 3 (omega arith), h 4 (omega arith), h 5 (omega arith), h 6 (omega arith))

-- so is a quaternion
pub quat-is : (l : List Float) (at : ℕ) (q : Quat) → ((r : ℕ) → r < 4 → get_or l (at + r) nan ≡ get_or (flat_quat q) r nan) → quat_at l at ≡ q
unfolding quat_at flat_quat
quat-is l at q h =
    let h0 : get_or l at nan ≡ q.w = rw add-zero at (h 0 (omega arith)) in
    rw (h0, h 1 (omega arith), h 2 (omega arith), h 3 (omega arith))
