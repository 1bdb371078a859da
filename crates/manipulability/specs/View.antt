-- Poses read through a view: of the walk in base, the links from `from` to `to` were walked again into tail.
use Rattle.std.specs.Prelude.{◌≡◌, refl, Bool, true, false, ◌&&◌, List, ℕ, ◌-◌, ◌*◌, ◌≤◌, ◌<◌, leb, ltb, Float, length}
use Rattle.std.proofs.Common.{arith, le-ltb, leb-true, ltb-true}
use Rattle.lists.specs.Tests.{and-true}
use Rattle.geometry.specs.declared.pose.Pose.{Pose}
use Rattle.spacetime.specs.Floats.{pose_at}
use Rattle.spacetime.specs.Walk.{pose_if, list_pose}
use Rattle.manipulability.specs.declared.view.Poses.{Poses}

-- link l was walked again
unfoldable pub walked_again : ℕ → ℕ → ℕ → Bool
walked_again from to l = leb from l && ltb l to

-- link l's pose, seven floats a link
unfoldable pub view_of : List Float → List Float → ℕ → ℕ → ℕ → Pose
view_of base tail from to l = pose_if (walked_again from to l) (pose_at tail (7 * (l - from))) (pose_at base (7 * l))

-- the view has n links
pub record View (base tail : List Float) (from to n : ℕ) : Type 0 where
  pub first : 7 * n ≤ length base
  pub again : 7 * (to - from) ≤ length tail

-- of the code's struct: the poses that it shows, and that it has n links
abbrev pub seen_by : Poses → ℕ → Pose
seen_by v = view_of v.base.now v.tail.now v.from v.to

abbrev pub HasLinks : Poses → ℕ → Type 0
HasLinks v n = View v.base.now v.tail.now v.from v.to n

-- ---- laws
pub walked-true : (from to l : ℕ) → walked_again from to l ≡ true → (from ≤ l) × (l < to)
unfolding walked_again
walked-true from to l e = let a = and-true (leb from l) (ltb l to) e in (leb-true from l a.0, ltb-true l to a.1)

-- with nothing walked again, the base, whatever the tail
pub view-base : (base tail : List Float) (l : ℕ) → view_of base tail 0 0 l ≡ pose_at base (7 * l)
unfolding view_of walked_again
view-base base tail l = rw (le-ltb l 0 (omega arith)) (neither (leb 0 l))
  where
    neither : (b : Bool) → pose_if (b && false) (pose_at tail (7 * (l - 0))) (pose_at base (7 * l)) ≡ pose_at base (7 * l)
    neither true = refl
    neither false = refl

pub view-list : (base tail : List Float) (l : ℕ) → view_of base tail 0 0 l ≡ list_pose base l
unfolding list_pose
view-list base tail l = view-base base tail l
