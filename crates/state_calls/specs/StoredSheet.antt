-- The calls on a stored sheet: their numbers, 20 where there are no arms.
use Rattle.std.specs.Prelude.{◌≡◌, refl, Bool, true, false, cond, List, [], ◌∷◌, ℕ, zero, suc, ◌+◌, ◌*◌, ◌≤◌, Float, length, drop}
use Rattle.std.proofs.Common.{sym, ◌∙◌, subst, add-one, arith, length-take, length-take-le}
use Rattle.std.proofs.Math.Path.{ap}
use Rattle.std.proofs.Math.Nat.{min-le_left}
use Rattle.std.proofs.Math.ListN.{take, get_or}
use Rattle.geometry.specs.declared.pose.Pose.{Pose}
use Rattle.sheet.specs.Chain.{total}
use Rattle.spacetime.specs.Walk.{pose_of}
use Rattle.manipulability.specs.Jacobian.{manipulability_of}
use Rattle.refusals.specs.Refusal.{shape_refusal, block_refusal, goals_refusal, tool_refusal}
use Rattle.calls.specs.Arms.{Accepted, arms-passed}
use Rattle.calls.specs.Frames.{frames_refusal, pose_refusal, pose-room}
use Rattle.state_calls.specs.State.{sizes_used, links_used, codes_used, floats_used, have_sheet, IsInUse, Stored, stored}
use Rattle.state_calls.specs.declared.state.Arms.{Arms}
use Rattle.state_calls.specs.declared.state.InUse.{InUse}

unfoldable pub if_arms : List ℕ → List ℕ → ℕ → ℕ
if_arms ss cs number = cond (have_sheet ss cs) number 20

-- 20, then 7, then 9
unfoldable pub frames_stored : List ℕ → List ℕ → List Float → ℕ → ℕ → ℕ
frames_stored ss cs x p r = if_arms ss cs (frames_refusal (links_used ss) (codes_used ss cs) x p r)

unfoldable pub pose_stored : List ℕ → List ℕ → List Float → ℕ → ℕ
pose_stored ss cs x n = if_arms ss cs (pose_refusal (links_used ss) (codes_used ss cs) x n)

-- 20, then 7
unfoldable pub block_stored : List ℕ → List ℕ → List Float → ℕ
block_stored ss cs x = if_arms ss cs (block_refusal (codes_used ss cs) x)

-- 20, then 8
unfoldable pub goals_stored : List ℕ → List ℕ → List Float → ℕ
goals_stored ss cs goals = if_arms ss cs (goals_refusal (get_or ss 0 0) goals)

-- 20, then 11
unfoldable pub tool_stored : List ℕ → List ℕ → ℕ → List Float → ℕ
tool_stored ss cs c tool = if_arms ss cs (tool_refusal (get_or ss 0 0) c tool)

-- 20, then 22, then 7
unfoldable pub update_stored : List ℕ → List ℕ → Bool → List Float → ℕ
update_stored ss cs started x = if_arms ss cs (cond started (block_refusal (codes_used ss cs) x) 22)

-- the poses of the stored sheet's walk
unfoldable pub stored_pose : List ℕ → List ℕ → List Float → List Float → ℕ → Pose
stored_pose ss cs gs x = pose_of (links_used ss) (codes_used ss cs) (floats_used ss gs) x

-- and their manipulability
unfoldable pub manipulability_stored : List ℕ → List ℕ → List Float → List Float → Float
manipulability_stored ss cs gs x = manipulability_of (stored_pose ss cs gs x) (links_used ss) (codes_used ss cs)

-- ---- laws
pub arms-there : (ss cs : List ℕ) (n : ℕ) → have_sheet ss cs ≡ true → if_arms ss cs n ≡ n
unfolding if_arms
arms-there ss cs n e = rw e

pub no-arms : (ss cs : List ℕ) (n : ℕ) → have_sheet ss cs ≡ false → if_arms ss cs n ≡ 20
unfolding if_arms
no-arms ss cs n e = rw e

-- a number that is 0 is a call's own
pub there : (ss cs : List ℕ) (n : ℕ) → if_arms ss cs n ≡ 0 → (have_sheet ss cs ≡ true) × (n ≡ 0)
unfolding if_arms
there ss cs n e = pick (have_sheet ss cs) e
  where
    pick : (t : Bool) → cond t n 20 ≡ 0 → (t ≡ true) × (n ≡ 0)
    pick true e = (refl, e)
    pick false e = absurd (omega arith)

pub links-length : (ss : List ℕ) → length (links_used ss) ≤ get_or ss 0 0
unfolding links_used
links-length ss = simp length-take (min-le_left _ _)

pub drop-take : (k : ℕ) (xs : List ℕ) → drop 1 (take (k + 1) xs) ≡ take k (drop 1 xs)
drop-take zero [] = refl
drop-take (suc k) [] = rw add-one refl
drop-take k (x ∷ xs) = rw add-one refl

pub stored-accepted : (ss cs : List ℕ) (gs : List Float) → length cs ≡ 64 → length gs ≡ 448 → have_sheet ss cs ≡ true
    → Accepted (links_used ss) (codes_used ss cs) (floats_used ss gs)
unfolding sizes_used links_used floats_used
stored-accepted ss cs gs lc lg e =
    let s : Stored ss cs = stored ss cs e in
    let w : length (floats_used ss gs) ≡ 7 * total (links_used ss) = length-take-le _ gs (omega (arith, s.links)) in
    subst (λ (ns : List ℕ). Accepted ns (codes_used ss cs) (floats_used ss gs)) (drop-take (get_or ss 0 0) ss)
    (arms-passed (sizes_used ss) (codes_used ss cs) (floats_used ss gs) (ap (shape_refusal (sizes_used ss) (codes_used ss cs)) w ∙ s.shape))

-- what is in use is an accepted sheet's
pub in-use-accepted : (a : Arms) (u : InUse) → length a.codes ≡ 64 → length a.floats ≡ 448 → IsInUse a u → Accepted u.counts.now u.codes.now u.floats.now
in-use-accepted a u lc lg i = rw (i.counts, i.codes, i.floats) (stored-accepted a.sizes a.codes a.floats lc lg i.have)

-- what a call on what is in use knows
pub ruleset in_use = (in-use-accepted, links-length)

-- ---- end poses always find room in 28 floats, so only the arms and the block are asked
pub pose-kept : (ss cs : List ℕ) (x : List Float) → pose_stored ss cs x 28 ≡ block_stored ss cs x
unfolding pose_stored block_stored if_arms
pose-kept ss cs x = pick (have_sheet ss cs) refl
  where
    pick : (t : Bool) → have_sheet ss cs ≡ t → cond t (pose_refusal (links_used ss) (codes_used ss cs) x 28) 20 ≡ cond t (block_refusal (codes_used ss cs) x) 20
    pick true e = pose-room (links_used ss) (codes_used ss cs) x (omega (arith, links-length ss, (stored ss cs e).few))
    pick false e = refl

pub pose-in-use : (a : Arms) (u : InUse) (x : List Float) (n : ℕ) → IsInUse a u → pose_refusal u.counts.now u.codes.now x n ≡ pose_stored a.sizes a.codes x n
unfolding pose_stored
pose-in-use a u x n i = rw (i.counts, i.codes) (sym (arms-there a.sizes a.codes _ i.have))
