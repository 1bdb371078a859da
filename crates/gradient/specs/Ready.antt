-- What an accepted call has.
use Rattle.std.specs.Prelude.{◌≡◌, None, ℕ, ◌-◌, ◌*◌, ◌≤◌, ◌<◌, Float, length, take}
use Rattle.std.proofs.Common.{sym, ap, ◌∙◌}
use mathlib.Core.List.{List}
use native.Mathlib.Omega.{arith}
use borrow.Author.Tests.{lt-ltb, le-leb}
use Rattle.geometry.specs.declared.pose.Pose.{Pose}
use Rattle.lists.specs.Splice.{splice, part-splice}
use Rattle.task.specs.declared.picks.Picks.{Picks}
use Rattle.task.specs.Task.{task_length, Given, given_of}
use Rattle.spacetime.specs.Walk.{Sheet, list_pose, frames_of, frames-pose}
use Rattle.spacetime.specs.Frames.{Chains}
use Rattle.manipulability.specs.View.{walked_again, view_of}
use Rattle.self_collision.specs.Pairs.{Paired}
use Rattle.objective_master.specs.Objective.{objective_count}
use Rattle.objective_master.specs.Losses.{Lent, losses_of}
use Rattle.objective_master.specs.Kinds.{kinds_of, kinds-length}
use Rattle.objective_master.specs.Cached.{Cached}
use Rattle.objective_master.specs.Count.{objectives-few}
use Rattle.objective_master.specs.Call.{TwoJoints}
use Rattle.objective_master.specs.Untouched.{cached-at, losses-ext}
use Rattle.gradient.specs.Gradient.{poses_of, losses_at, value_at}

-- an accepted sheet with its floats gs, the list with its weights, limits, goals, history and tools, and joints x
pub record Ready (ns cs : List ℕ) (task gs x : List Float) : Type 0 where
  pub sheet : Sheet ns cs gs x
  pub chains : Chains ns
  pub paired : Paired ns cs
  pub two : TwoJoints ns cs
  pub whole : length task ≡ task_length

-- the objectives' kinds ks; of block x the value f and the losses, in front of fs; room for poses and for losses
pub record Known (ns cs : List ℕ) (task : List Float) (picks : Picks) (gs x : List Float) (ks : List ℕ) (f : Float) (fs ps hs : List Float) : Type 0 where
  pub kinds : ks ≡ kinds_of picks ns cs
  pub value : f ≡ value_at (given_of ns cs task picks) gs x
  pub losses : take (length ks) fs ≡ losses_at (given_of ns cs task picks) gs x
  pub first : length ks ≤ length fs
  pub poses : 7 * length cs ≤ length ps
  pub again : length ks ≤ length hs

-- the objectives' kinds, n of them and at most 131, in front of a list
pub record KindsListed (picks : Picks) (ns cs list : List ℕ) (n : ℕ) : Type 0 where
  pub front : take n list ≡ kinds_of picks ns cs
  pub many : n ≡ length (take n list)
  pub few : length (take n list) ≤ 131
  pub within : n ≤ length list

-- ---- laws: another block of as many joints
pub ready-other : (ns cs : List ℕ) (task gs x y : List Float) → length y ≡ length x → Ready ns cs task gs x → Ready ns cs task gs y
ready-other ns cs task gs x y e r =
    let s : Sheet ns cs gs x = r.sheet in
    record {
      sheet = record { whole = s.whole; chains = s.chains; links = s.links; floats = s.floats; block = e ∙ s.block };
      chains = r.chains;
      paired = r.paired;
      two = r.two;
      whole = r.whole;
    }

module _ (ns cs : List ℕ) (task : List Float) (picks : Picks) (gs x : List Float) (r : Ready ns cs task gs x) where
  abbrev G : Given
  G = given_of ns cs task picks

  pub kinds-most : length (kinds_of picks ns cs) ≤ 131
  kinds-most = omega (arith, kinds-length picks ns cs, objectives-few ns cs r.paired.counted r.two picks)

  -- ---- as `relaxed_ik` leaves the list
  pub kinds-listed : (rest list : List ℕ) (n : ℕ) → length list ≡ 131 → n ≡ objective_count picks ns cs → list ≡ splice rest 0 (kinds_of picks ns cs) → KindsListed picks ns cs list n
  kinds-listed rest list n long e h =
      let f : take n list ≡ kinds_of picks ns cs = ap (take n) h ∙ part-splice rest 0 n (kinds_of picks ns cs) (omega arith) (kinds-length picks ns cs ∙ sym e) in
      let m : length (take n list) ≡ n = ap length f ∙ kinds-length picks ns cs ∙ sym e in
      record { front = f; many = sym m; few = omega (arith, ap length f, kinds-most); within = omega (arith, ap length f, kinds-most) }

  -- ---- poses that stand in one list, all of them walked again
  pub lent-whole : (poses : List Float) → 7 * length cs ≤ length poses → Lent ns cs task x poses poses 0 (length cs)
  lent-whole poses h =
      record {
        paired = r.paired;
        chains = r.chains;
        view = record { first = h; again = omega arith };
        values = r.sheet.block;
        whole = r.whole;
      }

  pub cached-whole : (P : ℕ → Pose) (out : List Float) → length (kinds_of picks ns cs) ≤ length out → Cached G P x 0 (length cs) None out
  unfolding given_of
  cached-whole P out h = cached-at G r.chains P x out (sym r.sheet.whole) (omega (arith, kinds-length picks ns cs))

  view-pose : (rest poses : List Float) (l : ℕ) → 7 * length cs ≤ length rest → poses ≡ splice rest 0 (frames_of ns cs gs x) → l < length cs
      → view_of poses poses 0 (length cs) l ≡ poses_of G gs x l
  unfolding view_of walked_again list_pose given_of
  view-pose rest poses l room e h =
      let z : l - 0 ≡ l = omega arith in
      rw (le-leb 0 l (omega arith), lt-ltb l (length cs) h, z)
      (ap (λ (p : List Float). list_pose p l) e ∙ frames-pose ns cs gs x rest l room h)

  pub losses-walked : (rest poses : List Float) → 7 * length cs ≤ length rest → poses ≡ splice rest 0 (frames_of ns cs gs x)
      → losses_of G (view_of poses poses 0 (length cs)) x ≡ losses_at G gs x
  unfolding losses_at given_of
  losses-walked rest poses room e =
      losses-ext G (view_of poses poses 0 (length cs)) (poses_of G gs x) x r.chains r.paired
      (λ l h. view-pose rest poses l room e (omega (arith, r.sheet.whole)))
