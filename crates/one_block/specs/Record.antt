-- The record of the one-block gradient, made from separate copies of the block. No copy's walk depends on another.
use Rattle.std.specs.Prelude.{◌≡◌, cond, List, [], ◌∷◌, ◌++◌, ℕ, zero, suc, ◌+◌, ◌-◌, ◌*◌, ◌≤◌, ◌<◌, eqb, Float, get_or, length, take}
use Rattle.lists.specs.Splice.{splice}
use Rattle.lists.specs.Runs.{runs}
use Rattle.sheet.specs.Chain.{end_in, joints_of, joint_of}
use Rattle.lists.specs.Lent.{LentOutput, output_lent}
use Rattle.spacetime.specs.Floats.{flat}
use Rattle.spacetime.specs.Walk.{start_of, after_link, before_of, pose_of, frames_of}
use Rattle.gradient.specs.Slopes.{step}
use Rattle.gradient.specs.Gradient.{raised_by}
use Rattle.one_block.specs.declared.walk.Place.{Place}
use Rattle.one_block.specs.declared.grad.Turn.{Turn}

-- copy 65535 is x; copy j is x with entry j raised
unfoldable pub copy_of : List Float → ℕ → List Float
copy_of x j = cond (eqb j 65535) x (raised_by step x j)

-- link l's part of what is walked again: nothing if it is fixed; else, in its joint's copy, the links from it to its chain's end
unfoldable pub again_of : {A : Type 0} → (ℕ → ℕ → List A) → List ℕ → List ℕ → ℕ → List A
again_of f ns cs l = cond (eqb (get_or cs l 0) 0) [] (runs (f (joint_of cs l)) l (end_in ns l - l))

-- all links of copy 65535, then what is walked again; f copy link is what the entry of that copy and link has in a list
unfoldable pub record_of : {A : Type 0} → (ℕ → ℕ → List A) → List ℕ → List ℕ → List A
record_of f ns cs = runs (f 65535) 0 (length cs) ++ runs (again_of f ns cs) 0 (length cs)

-- what an entry has in each list: its copy, its link, and the pose after the link in the copy's walk
unfoldable pub joint_entry : ℕ → ℕ → List ℕ
joint_entry copy l = copy ∷ []

unfoldable pub link_entry : ℕ → ℕ → List ℕ
link_entry copy l = l ∷ []

unfoldable pub pose_entry : List ℕ → List ℕ → List Float → List Float → ℕ → ℕ → List Float
pose_entry ns cs gs x copy l = flat (pose_of ns cs gs (copy_of x copy) l)

unfoldable pub record_joints : List ℕ → List ℕ → List ℕ
record_joints ns cs = record_of joint_entry ns cs

unfoldable pub record_links : List ℕ → List ℕ → List ℕ
record_links ns cs = record_of link_entry ns cs

unfoldable pub record_poses : List ℕ → List ℕ → List Float → List Float → List Float
record_poses ns cs gs x = record_of (pose_entry ns cs gs x) ns cs

-- how many links are walked again for link l's joint
unfoldable pub again_at : List ℕ → List ℕ → ℕ → ℕ
again_at ns cs l = cond (eqb (get_or cs l 0) 0) 0 (end_in ns l - l)

-- for the joints of all links below l
unfoldable pub again_below : List ℕ → List ℕ → ℕ → ℕ
again_below ns cs zero = 0
again_below ns cs (suc l) = again_below ns cs l + again_at ns cs l

-- the number of entries
unfoldable pub entries_of : List ℕ → List ℕ → ℕ
entries_of ns cs = length cs + again_below ns cs (length cs)

-- ---- what the functions ask and answer

-- entries of the record, as each of its lists has them
pub record Entries : Type 0 where
  pub joints : List ℕ
  pub links : List ℕ
  pub poses : List Float

-- link l's part of what is walked again, and all parts
abbrev pub again_entries : List ℕ → List ℕ → List Float → List Float → ℕ → Entries
again_entries ns cs gs x l = record { joints = again_of joint_entry ns cs l; links = again_of link_entry ns cs l; poses = again_of (pose_entry ns cs gs x) ns cs l }

abbrev pub every_again : List ℕ → List ℕ → List Float → List Float → Entries
every_again ns cs gs x =
    record {
      joints = runs (again_of joint_entry ns cs) 0 (length cs);
      links = runs (again_of link_entry ns cs) 0 (length cs);
      poses = runs (again_of (pose_entry ns cs gs x) ns cs) 0 (length cs);
    }

-- the record's lists, with entries e written from entry `at` on
pub record Written (at : ℕ) (e : Entries) (joints₀ links₀ : List ℕ) (frames₀ : List Float) (joints links : List ℕ) (frames : List Float) : Type 0 where
  pub of-joints : joints ≡ splice joints₀ at e.joints
  pub of-links : links ≡ splice links₀ at e.links
  pub of-frames : frames ≡ splice frames₀ (7 * at) e.poses

-- of a function's parameters
abbrev pub Writes : ℕ → Entries → LentOutput ℕ → LentOutput ℕ → LentOutput Float → Type 0
Writes at e joints links frames = Written at e (output_lent joints) (output_lent links) (output_lent frames) joints.exit.now links.exit.now frames.exit.now

-- the place after link l is walked from place p
unfoldable pub place_after : List ℕ → List ℕ → List Float → List Float → ℕ → Place → Place
place_after ns cs gs x l p =
    record { at = p.at + 1; joint = p.joint + joints_of (get_or cs l 0); pose = after_link cs gs x (start_of ns l p.pose) l p.joint }

-- after the n links from `from`
unfoldable pub place_after_all : List ℕ → List ℕ → List Float → List Float → ℕ → ℕ → Place → Place
place_after_all ns cs gs x from zero p = p
place_after_all ns cs gs x from (suc n) p = place_after ns cs gs x (from + n) (place_after_all ns cs gs x from n p)

-- after a turn of the loop over what is walked again: the pose is the first walk's
unfoldable pub place_after_turn : List ℕ → List ℕ → List Float → List Float → Turn → Place
place_after_turn ns cs gs x t =
    record { at = t.here.at + again_at ns cs t.link; joint = t.here.joint + joints_of (get_or cs t.link 0); pose = pose_of ns cs gs x t.link }

-- p is where the walk of x meets link l
pub record Meets (ns cs : List ℕ) (gs x : List Float) (l : ℕ) (p : Place) : Type 0 where
  pub number : p.joint ≡ joint_of cs l
  pub met : start_of ns l p.pose ≡ before_of ns cs gs x l

-- room for n entries
pub record Room (joints links : List ℕ) (frames : List Float) (n : ℕ) : Type 0 where
  pub joints-room : n ≤ length joints
  pub links-room : n ≤ length links
  pub frames-room : 7 * n ≤ length frames

-- a turn of that loop, with the first walk in front of the record
pub record AtTurn (ns cs : List ℕ) (gs x : List Float) (t : Turn) (frames : List Float) : Type 0 where
  pub inside : t.link < length cs
  pub meets : Meets ns cs gs x t.link t.here
  pub next : t.here.at ≡ length cs + again_below ns cs t.link
  pub walked : take (7 * length cs) frames ≡ frames_of ns cs gs x
