-- Laws of the record: a copy's walk is the first walk but for the links from its joint's to the end of that chain; and how long the lists are.
use Rattle.std.specs.Prelude.{◌≡◌, Bool, ◌⊎◌, eqb, Float, get_or, take}
use Rattle.std.proofs.Math.Path.{refl, sym, ap}
use Rattle.std.proofs.Common.{◌∙◌, ⊎_elim, eq-or-lt_of_le, le_refl, add-mul, add-one, get_or-take, eq-eqb, ne_eqb}
use Rattle.std.proofs.Math.Bool.{true, false, cond}
use mathlib.Core.List.{List, []}
use Prim.Native.Nat.{ℕ, zero, suc, ◌+◌, ◌-◌, ◌*◌, ◌≤◌, ◌<◌}
use native.Mathlib.Omega.{arith}
use Rattle.std.specs.Float.Ieee.{nan}
use Rattle.std.proofs.Math.ListN.{length, length-append}
use Rattle.standins.specs.Num.{◌⊕◌}
use Rattle.lists.specs.Splice.{splice, splice-nil}
use Rattle.lists.specs.Runs.{runs, length_runs, get_or-runs}
use Rattle.sheet.specs.Chain.{end_in, total, joints_of, joint_of, first-zero, first-end, end-past, joint-le, joint-more, joint-mono, joint-last, joints-one}
use Rattle.spacetime.specs.Floats.{pose_at, flat, flat-length, pose-is}
use Rattle.spacetime.specs.Walk.{Sheet, before_of, pose_of, value_of, poses, frames_of, poses-length, before_same, pose-same, value-other, next-met}
use Rattle.gradient.specs.Slopes.{step}
use Rattle.gradient.specs.Gradient.{raised_by}
use Rattle.one_block.specs.declared.walk.Place.{Place}
use Rattle.one_block.specs.declared.grad.Turn.{Turn}
use Rattle.one_block.specs.Record.{copy_of, again_of, record_of, joint_entry, link_entry, pose_entry, record_joints, record_links, record_poses, again_at, again_below, entries_of, place_after, place_after_all, place_after_turn, Meets, AtTurn}

-- ---- copies

pub copy-first : (x : List Float) → copy_of x 65535 ≡ x
unfolding copy_of
copy-first x = refl

pub copy-joint : (x : List Float) (j : ℕ) → j < 65535 → copy_of x j ≡ raised_by step x j
unfolding copy_of
copy-joint x j h = rw (ne_eqb j 65535 (λ e. omega arith))

-- a copy's walk
module _ (ns cs : List ℕ) (gs x : List Float) (k : ℕ) (turns : get_or cs k 0 ≡ 0 → ⊥) where
  -- a link other than k reads the same in the copy of k's joint
  value-copy : (l : ℕ) → (k ≡ l → ⊥) → value_of cs x l (joint_of cs l) ≡ value_of cs (copy_of x (joint_of cs k)) l (joint_of cs l)
  unfolding copy_of raised_by
  value-copy l ne = go (eqb (joint_of cs k) 65535)
    where
      go : (t : Bool) → value_of cs x l (joint_of cs l) ≡ value_of cs (cond t x (raised_by step x (joint_of cs k))) l (joint_of cs l)
      go true = refl
      go false = value-other cs x k l (get_or x (joint_of cs k) nan ⊕ step) turns ne

  -- k is met with the same pose
  pub before-copy : before_of ns cs gs x k ≡ before_of ns cs gs (copy_of x (joint_of cs k)) k
  before-copy = before_same ns cs gs x (copy_of x (joint_of cs k)) 0 (first-zero ns) k (omega arith) (λ l g b. value-copy l (λ e. omega arith))

  -- links before k, and those of later chains, have the poses of copy 65535
  pub pose-outside : (l : ℕ) → k < total ns → l < total ns → (l < k) ⊎ (end_in ns k ≤ l) → pose_of ns cs gs (copy_of x (joint_of cs k)) l ≡ pose_of ns cs gs x l
  pose-outside l inside h o =
      let y : List Float = copy_of x (joint_of cs k) in
      let p : k < end_in ns k = (end-past ns k inside).0 in
      ⊎_elim
      (λ (b : l < k). sym (pose-same ns cs gs x y 0 (first-zero ns) l (omega arith) (λ m g c. value-copy m (λ e. omega arith))))
      (λ (b : end_in ns k ≤ l). sym (pose-same ns cs gs x y (end_in ns k) (first-end ns k inside (omega arith)) l b (λ m g c. value-copy m (λ e. omega arith))))
      o

-- ---- what an accepted sheet gives
module _ (ns cs : List ℕ) (gs x : List Float) (s : Sheet ns cs gs x) where
  -- a joint's number is small
  pub joint-small : (l : ℕ) → l ≤ length cs → joint_of cs l ≤ 64
  joint-small l h = omega (arith, s.links, joint-le cs l)

  -- what a link reads is in the block
  pub joint-inside : (l : ℕ) → l < length cs → joint_of cs l + joints_of (get_or cs l 0) ≤ length x
  joint-inside l h = omega (arith, joint-more cs l, joint-mono cs (l + 1) (length cs) (omega arith), joint-last cs, s.block)

  pub joint-in-block : (l : ℕ) → l < length cs → (get_or cs l 0 ≡ 0 → ⊥) → joint_of cs l < length x
  joint-in-block l h turns = omega (arith, joint-inside l h, joints-one (get_or cs l 0) turns)

-- ---- walking
module _ (ns cs : List ℕ) (gs x : List Float) (l : ℕ) (p r : Place) (m : Meets ns cs gs x l p) (e : r ≡ place_after ns cs gs x l p) where
  pub pose-walked : r.pose ≡ pose_of ns cs gs x l
  unfolding place_after pose_of
  pose-walked = ap (λ (q : Place). q.pose) e ∙ rw (m.met, m.number)

  pub meets-next : Meets ns cs gs x (l + 1) r
  unfolding place_after
  meets-next =
      record {
        number = ap (λ (q : Place). q.joint) e ∙ ap (λ (j : ℕ). j + joints_of (get_or cs l 0)) m.number ∙ sym (joint-more cs l);
        met = next-met ns cs gs x l r.pose pose-walked;
      }

  pub at_next : r.at ≡ p.at + 1
  unfolding place_after
  at_next = ap (λ (q : Place). q.at) e

-- turn after turn
module _ (ns cs : List ℕ) (gs x : List Float) (from : ℕ) (p : Place) where
  pub walked_none : place_after_all ns cs gs x from (from - from) p ≡ p
  unfolding place_after_all
  walked_none = let z : from - from ≡ 0 = omega arith in rw z

  pub walked_more : (l : ℕ) (q r : Place) → from ≤ l → q ≡ place_after_all ns cs gs x from (l - from) p → r ≡ place_after ns cs gs x l q
      → r ≡ place_after_all ns cs gs x from (l + 1 - from) p
  unfolding place_after_all
  walked_more l q r h e f =
      let n : l + 1 - from ≡ suc (l - from) = omega arith in
      let k : from + (l - from) ≡ l = omega arith in
      f ∙ ap (place_after ns cs gs x l) e ∙ rw (n, k)

  pub walked_at : (n : ℕ) → (place_after_all ns cs gs x from n p).at ≡ p.at + n
  unfolding place_after_all place_after
  walked_at zero = omega arith
  walked_at (suc n) = omega (arith, walked_at n)

-- the first walk's poses, read from the front of the record
pub pose-first : (ns cs : List ℕ) (gs x frames : List Float) (l : ℕ) → l < length cs → take (7 * length cs) frames ≡ frames_of ns cs gs x
    → pose_at frames (7 * l) ≡ pose_of ns cs gs x l
unfolding frames_of poses
pose-first ns cs gs x frames l h e =
    pose-is frames (7 * l) (pose_of ns cs gs x l)
    (λ r b.
    let i : 7 * l + r ≡ l * 7 + r = omega arith in
    let z : 0 + l ≡ l = omega arith in
    sym (get_or-take (7 * length cs) frames (7 * l + r) nan (omega arith))
    ∙ ap (λ (f : List Float). get_or f (7 * l + r) nan) e
    ∙ ap (λ (n : ℕ). get_or (runs (poses ns cs gs x) 0 (length cs)) n nan) i
    ∙ get_or-runs (poses ns cs gs x) 7 (poses-length ns cs gs x) 0 (length cs) l r nan h b
    ∙ ap (λ (n : ℕ). get_or (flat (pose_of ns cs gs x n)) r nan) z)

-- a turn of the loop over what is walked again
module _ (ns cs : List ℕ) (gs x : List Float) (t : Turn) (q : Place) where
  pub turn_is : (frames : List Float) → AtTurn ns cs gs x t frames
      → q.at ≡ t.here.at + again_at ns cs t.link → q.joint ≡ t.here.joint + joints_of (get_or cs t.link 0) → q.pose ≡ pose_at frames (7 * t.link) → q ≡ place_after_turn ns cs gs x t
  unfolding place_after_turn
  turn_is frames s a j e = rw (← a, ← j, ← (e ∙ pose-first ns cs gs x frames t.link s.inside s.walked))

  pub turn_at_lem : q ≡ place_after_turn ns cs gs x t → q.at ≡ t.here.at + again_at ns cs t.link
  unfolding place_after_turn
  turn_at_lem e = ap (λ (z : Place). z.at) e

  pub turn-meets : Meets ns cs gs x t.link t.here → q ≡ place_after_turn ns cs gs x t → Meets ns cs gs x (t.link + 1) q
  unfolding place_after_turn
  turn-meets m e =
      record {
        number = ap (λ (z : Place). z.joint) e ∙ ap (λ (n : ℕ). n + joints_of (get_or cs t.link 0)) m.number ∙ sym (joint-more cs t.link);
        met = next-met ns cs gs x t.link q.pose (ap (λ (z : Place). z.pose) e);
      }

-- ---- lengths
pub joint-entry : (copy l : ℕ) → length (joint_entry copy l) ≡ 1
unfolding joint_entry
joint-entry copy l = refl

pub link-entry : (copy l : ℕ) → length (link_entry copy l) ≡ 1
unfolding link_entry
link-entry copy l = refl

pub pose-entry : (ns cs : List ℕ) (gs x : List Float) (copy l : ℕ) → length (pose_entry ns cs gs x copy l) ≡ 7
unfolding pose_entry
pose-entry ns cs gs x copy l = flat-length (pose_of ns cs gs (copy_of x copy) l)

pub frames-length : (ns cs : List ℕ) (gs x : List Float) → length (frames_of ns cs gs x) ≡ 7 * length cs
unfolding frames_of
frames-length ns cs gs x = length_runs (poses ns cs gs x) 7 (poses-length ns cs gs x) 0 (length cs) ∙ omega arith

pub entries_over : (ns cs : List ℕ) → length cs ≤ entries_of ns cs
unfolding entries_of
entries_over ns cs = omega arith

pub below_none : (ns cs : List ℕ) → again_below ns cs 0 ≡ 0
unfolding again_below
below_none ns cs = refl

pub below_more : (ns cs : List ℕ) (l : ℕ) → again_below ns cs (l + 1) ≡ again_below ns cs l + again_at ns cs l
unfolding again_below
below_more ns cs l = rw add-one

pub below-mono : (ns cs : List ℕ) (l m : ℕ) → l ≤ m → again_below ns cs l ≤ again_below ns cs m
unfolding again_below
below-mono ns cs l zero h = let e : l ≡ 0 = omega arith in rw e (le_refl 0)
below-mono ns cs l (suc m) h =
    ⊎_elim
    (λ (e : l ≡ suc m). rw e (le_refl (again_below ns cs (suc m))))
    (λ (b : l < suc m). omega (arith, below-mono ns cs l m (omega arith)))
    (eq-or-lt_of_le h)

pub below-entries : (ns cs : List ℕ) (l : ℕ) → l ≤ length cs → length cs + again_below ns cs l ≤ entries_of ns cs
unfolding entries_of
below-entries ns cs l h = omega (arith, below-mono ns cs l (length cs) h)

-- small numbers
again-at-most : (ns cs : List ℕ) (l : ℕ) → l < total ns → again_at ns cs l ≤ total ns
unfolding again_at
again-at-most ns cs l h = go (eqb (get_or cs l 0) 0)
  where
    go : (t : Bool) → cond t 0 (end_in ns l - l) ≤ total ns
    go true = omega arith
    go false = omega (arith, (end-past ns l h).1)

pub below-most : (ns cs : List ℕ) (l : ℕ) → total ns ≤ 64 → l ≤ total ns → again_below ns cs l ≤ 64 * l
unfolding again_below
below-most ns cs zero few h = omega arith
below-most ns cs (suc l) few h = omega (arith, below-most ns cs l few (omega arith), again-at-most ns cs l h)

-- lists whose entries have one length w
module _ {A : Type 0} (f : ℕ → ℕ → List A) (w : ℕ) (each : (copy l : ℕ) → length (f copy l) ≡ w) (ns cs : List ℕ) where
  pub length-again : (l : ℕ) → length (again_of f ns cs l) ≡ again_at ns cs l * w
  unfolding again_of again_at
  length-again l = go (eqb (get_or cs l 0) 0)
    where
      go : (t : Bool) → length (cond t [] (runs (f (joint_of cs l)) l (end_in ns l - l))) ≡ cond t 0 (end_in ns l - l) * w
      go true = omega arith
      go false = length_runs (f (joint_of cs l)) w (each (joint_of cs l)) l (end_in ns l - l)

  pub length-below : (l : ℕ) → length (runs (again_of f ns cs) 0 l) ≡ again_below ns cs l * w
  unfolding runs again_below
  length-below zero = omega arith
  length-below (suc l) =
      let z : 0 + l ≡ l = omega arith in
      length-append (runs (again_of f ns cs) 0 l) (again_of f ns cs (0 + l))
      ∙ rw z (ap (λ (n : ℕ). n + length (again_of f ns cs l)) (length-below l) ∙ ap (λ (n : ℕ). again_below ns cs l * w + n) (length-again l) ∙ sym (add-mul (again_below ns cs l) (again_at ns cs l) w))

  pub length-record : length (record_of f ns cs) ≡ entries_of ns cs * w
  unfolding record_of entries_of
  length-record =
      length-append (runs (f 65535) 0 (length cs)) (runs (again_of f ns cs) 0 (length cs))
      ∙ ap (λ (n : ℕ). n + length (runs (again_of f ns cs) 0 (length cs))) (length_runs (f 65535) w (each 65535) 0 (length cs))
      ∙ ap (λ (n : ℕ). length cs * w + n) (length-below (length cs)) ∙ sym (add-mul (length cs) (again_below ns cs (length cs)) w)

pub length-joints : (ns cs : List ℕ) → length (record_joints ns cs) ≡ entries_of ns cs
unfolding record_joints
length-joints ns cs = length-record joint_entry 1 joint-entry ns cs ∙ omega arith

pub length-links : (ns cs : List ℕ) → length (record_links ns cs) ≡ entries_of ns cs
unfolding record_links
length-links ns cs = length-record link_entry 1 link-entry ns cs ∙ omega arith

pub length-poses : (ns cs : List ℕ) (gs x : List Float) → length (record_poses ns cs gs x) ≡ 7 * entries_of ns cs
unfolding record_poses
length-poses ns cs gs x = length-record (pose_entry ns cs gs x) 7 (pose-entry ns cs gs x) ns cs ∙ omega arith

-- ---- a link's part of what is walked again
module _ (ns cs : List ℕ) (k : ℕ) (turns : get_or cs k 0 ≡ 0 → ⊥) where
  pub again-at-joint : again_at ns cs k ≡ end_in ns k - k
  unfolding again_at
  again-at-joint = rw (ne_eqb (get_or cs k 0) 0 turns)

  pub again-joint : {A : Type 0} (f : ℕ → ℕ → List A) → again_of f ns cs k ≡ runs (f (joint_of cs k)) k (end_in ns k - k)
  unfolding again_of
  again-joint f = rw (ne_eqb (get_or cs k 0) 0 turns)

module _ (ns cs : List ℕ) (k : ℕ) (fixed : get_or cs k 0 ≡ 0) where
  pub again-at-fixed : again_at ns cs k ≡ 0
  unfolding again_at
  again-at-fixed = rw (eq-eqb (get_or cs k 0) 0 fixed)

  pub again-fixed : {A : Type 0} (f : ℕ → ℕ → List A) (xs : List A) (at : ℕ) → xs ≡ splice xs at (again_of f ns cs k)
  unfolding again_of
  again-fixed f xs at = rw (eq-eqb (get_or cs k 0) 0 fixed) (sym (splice-nil xs at))

-- the poses of an entry's copy, link after link
pub runs-poses : (ns cs : List ℕ) (gs x : List Float) (copy from n : ℕ) → runs (pose_entry ns cs gs x copy) from n ≡ runs (poses ns cs gs (copy_of x copy)) from n
unfolding pose_entry poses
runs-poses ns cs gs x copy from n = refl

-- the first walk is that of copy 65535
pub first-poses : (ns cs : List ℕ) (gs x : List Float) → frames_of ns cs gs x ≡ runs (pose_entry ns cs gs x 65535) 0 (length cs)
unfolding frames_of
first-poses ns cs gs x = ap (λ (y : List Float). runs (poses ns cs gs y) 0 (length cs)) (sym (copy-first x)) ∙ sym (runs-poses ns cs gs x 65535 0 (length cs))

-- a joint's links walked again stand in the sheet and have room
pub record Fits (ns cs : List ℕ) (k at : ℕ) : Type 0 where
  pub past : k < end_in ns k
  pub within : end_in ns k ≤ length cs
  pub room : at + (end_in ns k - k) ≤ entries_of ns cs

pub fits : (ns cs : List ℕ) (k at : ℕ) → (get_or cs k 0 ≡ 0 → ⊥) → k < length cs → total ns ≡ length cs → at ≡ length cs + again_below ns cs k → Fits ns cs k at
unfolding entries_of
fits ns cs k at turns h e p =
    let q = end-past ns k (omega arith) in
    record {
      past = q.0;
      within = omega (arith, q.1);
      room = omega (arith, below_more ns cs k, below-mono ns cs (k + 1) (length cs) (omega arith), again-at-joint ns cs k turns);
    }
