-- What a walk gives: the pose after each link, of a block of joints.
use Rattle.std.specs.Prelude.{◌≡◌, Bool, false, cond, List, Float, get_or, length, set}
use Rattle.std.proofs.Math.Path.{refl}
use Rattle.std.proofs.Common.{sym, ap, ◌∙◌, eq-or-lt_of_le, add-one, arith, get_or-set_other}
use Rattle.std.proofs.Math.Bool.{true}
use Rattle.std.proofs.Math.Logic.{⊎_elim}
use Prim.Native.Nat.{ℕ, zero, suc, ◌+◌, ◌*◌, ◌≤◌, ◌<◌}
use Rattle.std.specs.Float.{nan}
use Rattle.standins.specs.Num.{nought}
use Rattle.geometry.specs.declared.pose.Pose.{Pose}
use Rattle.geometry.specs.Pose.{origin_of}
use Rattle.lists.specs.Splice.{splice, get_or-splice-in}
use Rattle.lists.specs.Runs.{runs, length_runs, get_or-runs}
use Rattle.sheet.specs.Code.{has_joint, joint-there}
use Rattle.sheet.specs.Chain.{total, first_in, joint_of, joints, joint-below, below_or}
use Rattle.sheet.specs.Read.{kind_at}
use Rattle.spacetime.specs.Link.{link_of}
use Rattle.spacetime.specs.Floats.{vec_at, quat_at, pose_at, flat, flat-length, pose-is}

abbrev pub pose_if : Bool → Pose → Pose → Pose
pose_if true a b = a
pose_if false a b = b

-- what link l reads of a block, its joint's number being j: nothing if it is fixed
unfoldable pub value_of : List ℕ → List Float → ℕ → ℕ → Float
value_of cs x l j = cond (has_joint (get_or cs l 0)) (get_or x j nan) nought

-- the pose after link l, whose joint has the number j, p being the pose before it; its seven floats are displacement and offset
unfoldable pub after_link : List ℕ → List Float → List Float → Pose → ℕ → ℕ → Pose
after_link cs gs x p l j = link_of (kind_at cs l) (vec_at gs (7 * l)) (quat_at gs (7 * l + 3)) (value_of cs x l j) p

-- the pose with which link l is met, p being the pose after the link before: a chain starts at the origin
unfoldable pub start_of : List ℕ → ℕ → Pose → Pose
start_of ns l p = pose_if (first_in ns l) origin_of p

unfoldable pub before_of : List ℕ → List ℕ → List Float → List Float → ℕ → Pose
before_of ns cs gs x zero = origin_of
before_of ns cs gs x (suc l) = start_of ns (suc l) (after_link cs gs x (before_of ns cs gs x l) l (joint_of cs l))

-- the pose after link l in the walk of block x, links and joints numbered across chains
unfoldable pub pose_of : List ℕ → List ℕ → List Float → List Float → ℕ → Pose
pose_of ns cs gs x l = after_link cs gs x (before_of ns cs gs x l) l (joint_of cs l)

-- link l's seven floats in the list of a walk's poses
unfoldable pub poses : List ℕ → List ℕ → List Float → List Float → ℕ → List Float
poses ns cs gs x l = flat (pose_of ns cs gs x l)

-- the poses that such a list has
unfoldable pub list_pose : List Float → ℕ → Pose
list_pose r l = pose_at r (7 * l)

-- the poses after all links
unfoldable pub frames_of : List ℕ → List ℕ → List Float → List Float → List Float
frames_of ns cs gs x = runs (poses ns cs gs x) 0 (length cs)

-- what an accepted sheet and block have: as many links as the chains say, seven floats a link, a value a joint
pub record Sheet (ns cs : List ℕ) (gs x : List Float) : Type 0 where
  pub whole : total ns ≡ length cs
  pub chains : length ns ≤ 4
  pub links : length cs ≤ 64
  pub floats : length gs ≡ 7 * length cs
  pub block : length x ≡ joints cs

-- ---- laws
pub start-zero : (ns cs : List ℕ) (gs x : List Float) (p : Pose) → first_in ns 0 ≡ true → start_of ns 0 p ≡ before_of ns cs gs x 0
unfolding start_of before_of
start-zero ns cs gs x p e = rw e

pub before_more : (ns cs : List ℕ) (gs x : List Float) (l : ℕ) → start_of ns (l + 1) (pose_of ns cs gs x l) ≡ before_of ns cs gs x (l + 1)
unfolding pose_of before_of
before_more ns cs gs x l = rw add-one

-- a link after the start e of a chain is met with one pose in two walks, where the links from e to it read the same
module _ (ns cs : List ℕ) (gs x y : List Float) (e : ℕ) (first : first_in ns e ≡ true) where
  pub before_same : (m : ℕ) → e ≤ m → ((l : ℕ) → e ≤ l → l < m → value_of cs x l (joint_of cs l) ≡ value_of cs y l (joint_of cs l))
      → before_of ns cs gs x m ≡ before_of ns cs gs y m
  unfolding before_of start_of after_link
  before_same zero h same = refl
  before_same (suc m) h same =
      ⊎_elim
      (λ (q : e ≡ suc m). let f : first_in ns (suc m) ≡ true = rw q at first in rw f)
      (λ (b : e < suc m).
      let i : before_of ns cs gs x m ≡ before_of ns cs gs y m = before_same m (omega arith) (λ l g k. same l g (omega arith)) in
      let v = same m (omega arith) (omega arith) in
      rw (i, v))
      (eq-or-lt_of_le h)

  pub pose-same : (m : ℕ) → e ≤ m → ((l : ℕ) → e ≤ l → l < suc m → value_of cs x l (joint_of cs l) ≡ value_of cs y l (joint_of cs l))
      → pose_of ns cs gs x m ≡ pose_of ns cs gs y m
  unfolding pose_of after_link
  pose-same m h same =
      let i : before_of ns cs gs x m ≡ before_of ns cs gs y m = before_same m h (λ l g k. same l g (omega arith)) in
      let v = same m h (omega arith) in
      rw (i, v)

-- a joint that is written is read by its own link alone
pub value-other : (cs : List ℕ) (x : List Float) (k l : ℕ) (v : Float) → (get_or cs k 0 ≡ 0 → ⊥) → (k ≡ l → ⊥)
    → value_of cs x l (joint_of cs l) ≡ value_of cs (set x (joint_of cs k) v) l (joint_of cs l)
unfolding value_of
value-other cs x k l v turns other = go (has_joint (get_or cs l 0)) refl
  where
    go : (t : Bool) → has_joint (get_or cs l 0) ≡ t
        → cond (has_joint (get_or cs l 0)) (get_or x (joint_of cs l) nan) nought ≡ cond (has_joint (get_or cs l 0)) (get_or (set x (joint_of cs k) v) (joint_of cs l) nan) nought
    go false q = rw q
    go true q =
        let ne : get_or cs l 0 ≡ 0 → ⊥ = joint-there (get_or cs l 0) q in
        let apart : joint_of cs l ≡ joint_of cs k → ⊥ =
        λ j. ⊎_elim (λ (b : k < l). omega (arith, joint-below cs k l b turns)) (λ (b : l ≤ k). let other' : l ≡ k → ⊥ = λ z. other (sym z) in let b' : l < k = omega arith in omega (arith, joint-below cs l k b' ne)) (below_or k l) in
        ap (λ (z : Float). cond (has_joint (get_or cs l 0)) z nought) (sym (get_or-set_other x (joint_of cs k) (joint_of cs l) v nan apart))

pub poses-length : (ns cs : List ℕ) (gs x : List Float) (i : ℕ) → length (poses ns cs gs x i) ≡ 7
unfolding poses
poses-length ns cs gs x i = flat-length (pose_of ns cs gs x i)

-- what a turn of the walk's loop makes is the pose after the link, and the next link is met as it should be
pub pose-made : (ns cs : List ℕ) (gs x : List Float) (l j : ℕ) (q s r : Pose) → start_of ns l q ≡ before_of ns cs gs x l → j ≡ joint_of cs l
    → s ≡ start_of ns l q → r ≡ after_link cs gs x s l j → r ≡ pose_of ns cs gs x l
unfolding pose_of
pose-made ns cs gs x l j q s r e₁ e₂ e₃ e₄ = cc

pub next-met : (ns cs : List ℕ) (gs x : List Float) (l : ℕ) (r : Pose) → r ≡ pose_of ns cs gs x l → start_of ns (l + 1) r ≡ before_of ns cs gs x (l + 1)
next-met ns cs gs x l r e = ap (start_of ns (l + 1)) e ∙ before_more ns cs gs x l

pub flat-made : (ns cs : List ℕ) (gs x : List Float) (l : ℕ) (r : Pose) → r ≡ pose_of ns cs gs x l → flat r ≡ poses ns cs gs x l
unfolding poses
flat-made ns cs gs x l r e = ap flat e

unflat : (ns cs : List ℕ) (gs x : List Float) (l r : ℕ) → get_or (poses ns cs gs x l) r nan ≡ get_or (flat (pose_of ns cs gs x l)) r nan
unfolding poses
unflat ns cs gs x l r = refl

-- a list that holds a walk's poses gives them back
pub frames-pose : (ns cs : List ℕ) (gs x rest : List Float) (l : ℕ) → 7 * length cs ≤ length rest → l < length cs
    → list_pose (splice rest 0 (frames_of ns cs gs x)) l ≡ pose_of ns cs gs x l
unfolding list_pose frames_of
frames-pose ns cs gs x rest l room h =
    pose-is (splice rest 0 (runs (poses ns cs gs x) 0 (length cs))) (7 * l) (pose_of ns cs gs x l)
    (λ r b.
    let n : length (runs (poses ns cs gs x) 0 (length cs)) ≡ length cs * 7 = length_runs (poses ns cs gs x) 7 (poses-length ns cs gs x) 0 (length cs) in
    let i : 7 * l + r ≡ 0 + (l * 7 + r) = omega arith in
    let z : 0 + l ≡ l = omega arith in
    ap (λ (k : ℕ). get_or (splice rest 0 (runs (poses ns cs gs x) 0 (length cs))) k nan) i
    ∙ get_or-splice-in rest 0 (runs (poses ns cs gs x) 0 (length cs)) (l * 7 + r) nan (omega arith) (omega arith)
    ∙ get_or-runs (poses ns cs gs x) 7 (poses-length ns cs gs x) 0 (length cs) l r nan h b
    ∙ ap (λ (k : ℕ). get_or (poses ns cs gs x k) r nan) z ∙ unflat ns cs gs x l r)
