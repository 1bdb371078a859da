-- The slopes: losses of a copy that is read from the record, its own links walked again and the others from the first walk.
use Rattle.std.specs.Prelude.{◌≡◌, Bool, Option, Some, ◌&&◌, ◌⊎◌, leb, Float, set, drop}
use Rattle.std.proofs.Math.Path.{refl, sym, ap}
use Rattle.std.proofs.Common.{◌∙◌, inl, inr, ⊎_elim, arith, get_or-take, get_or-drop, get_or-set_other, length-take-le, take_all, lt-ltb, le-ltb, le-leb, eqb-true, eq-eqb, ne_eqb}
use Rattle.std.proofs.Math.Bool.{true, false, cond, true≢false}
use mathlib.Core.List.{List, [], ◌∷◌, map}
use Prim.Native.Nat.{ℕ, ◌+◌, ◌-◌, ◌*◌, ◌≤◌, ◌<◌}
use Rattle.std.proofs.Math.Dec.{eqb}
use Rattle.std.specs.Float.Ieee.{nan, neg}
use Rattle.std.proofs.Math.ListN.{length, get_or, take, get_or-eq_default}
use Rattle.std.proofs.lemmas.List.{length-map}
use Rattle.std.proofs.lemmas.Bool.{lt-leb, eqb-false}
use Rattle.standins.specs.Num.{◌⊕◌, ◌⊘◌}
use Rattle.geometry.specs.declared.pose.Pose.{Pose}
use Rattle.lists.specs.Splice.{splice, length-splice, get_or-splice-in}
use Rattle.lists.specs.Runs.{runs, runs-ext, length_runs, get_or-runs}
use Rattle.lists.specs.Listed.{listed, listed-turn}
use Rattle.sheet.specs.Chain.{end_in, total, joint_of, joints-fixed, joints-one, joint-more, below_or, end-past}
use Rattle.task.specs.declared.picks.Picks.{Picks}
use Rattle.task.specs.Task.{Given, given_of}
use Rattle.spacetime.specs.Floats.{pose_at, flat, pose-is}
use Rattle.spacetime.specs.Walk.{pose_of, poses, poses-length, frames_of, list_pose}
use Rattle.manipulability.specs.View.{view_of, walked_again}
use Rattle.groove.specs.Loss.{any_nan}
use Rattle.objective_master.specs.Objective.{Objective}
use Rattle.objective_master.specs.Losses.{losses_of, objectives_of, losses-many}
use Rattle.objective_master.specs.Weights.{weighted_by}
use Rattle.objective_master.specs.Kinds.{kinds_of, kinds-length}
use Rattle.objective_master.specs.Cached.{is_raised, touched, Cached}
use Rattle.objective_master.specs.Untouched.{cached-again, losses-ext}
use Rattle.gradient.specs.Slopes.{step, slope_between}
use Rattle.gradient.specs.Gradient.{raised_by, poses_of, losses_at, gradient_at, slope_at, slopes_of, gradient_of}
use Rattle.gradient.specs.Ready.{Ready}
use Rattle.gradient.specs.Made.{weighted-slopes}
use Rattle.one_block.specs.Record.{copy_of}
use Rattle.one_block.specs.Laws.{copy-joint, pose-first, pose-outside, joint-small, joint-in-block}
use Rattle.one_block.specs.Numbers.{numbers-raised}

-- the weighted slope from the losses fs to those of poses P and joints y
unfoldable pub slope_to : Given → List Float → (ℕ → Pose) → List Float → Float
slope_to g fs P y = let ks : List ℕ = kinds_of g.picks g.counts g.codes in weighted_by g.weights ks (listed (slope_between fs (losses_of g P y)) (length ks))

-- link l's turn in the list of slopes: its joint's entry is set, if it has a joint
unfoldable pub slopes_after : Given → List Float → List Float → ℕ → List Float → List Float
slopes_after g gs x l slopes = cond (eqb (get_or g.codes l 0) 0) slopes (set slopes (joint_of g.codes l) (gradient_at g gs x (joint_of g.codes l)))

-- the objectives' kinds ks, the losses of block x in front of fs, and room for the slopes
pub record Basis (ns cs : List ℕ) (task : List Float) (picks : Picks) (gs x : List Float) (ks : List ℕ) (fs slopes : List Float) : Type 0 where
  pub kinds : ks ≡ kinds_of picks ns cs
  pub losses : take (length ks) fs ≡ losses_at (given_of ns cs task picks) gs x
  pub losses-room : length ks ≤ length fs
  pub slopes-room : length x ≤ length slopes

-- ---- laws: views
neither : (b : Bool) → (b && false) ≡ false
neither true = refl
neither false = refl

pub walked-false : (from to l : ℕ) → (l < from) ⊎ (to ≤ l) → walked_again from to l ≡ false
unfolding walked_again
walked-false from to l o =
    ⊎_elim (λ (b : l < from). rw (lt-leb from l b)) (λ (b : to ≤ l). rw (le-ltb l to b) (neither (leb from l))) o

view-outside : (base tail : List Float) (from to l : ℕ) → walked_again from to l ≡ false → view_of base tail from to l ≡ list_pose base l
unfolding view_of walked_again list_pose
view-outside base tail from to l q = rw q

view-again : (base tail : List Float) (from to l : ℕ) → from ≤ l → l < to → view_of base tail from to l ≡ pose_at tail (7 * (l - from))
unfolding view_of walked_again
view-again base tail from to l a b = rw (le-leb from l a, lt-ltb l to b)

-- the poses from link k on, read from the part of the record that holds them
tail-pose : (ns cs : List ℕ) (gs y record₀ frames : List Float) (a k n l : ℕ) → frames ≡ splice record₀ a (runs (poses ns cs gs y) k n) → a + 7 * n ≤ length record₀
    → k ≤ l → l < k + n → pose_at (drop a frames) (7 * (l - k)) ≡ pose_of ns cs gs y l
unfolding poses
tail-pose ns cs gs y record₀ frames a k n l e room h b =
    let many : length (runs (poses ns cs gs y) k n) ≡ n * 7 = length_runs (poses ns cs gs y) 7 (poses-length ns cs gs y) k n in
    let back : k + (l - k) ≡ l = omega arith in
    pose-is (drop a frames) (7 * (l - k)) (pose_of ns cs gs y l)
    (λ r c.
    let i : 7 * (l - k) + r ≡ (l - k) * 7 + r = omega arith in
    get_or-drop a frames (7 * (l - k) + r) nan
    ∙ ap (λ (f : List Float). get_or f (a + (7 * (l - k) + r)) nan) e
    ∙ get_or-splice-in record₀ a (runs (poses ns cs gs y) k n) (7 * (l - k) + r) nan (omega arith) (omega arith)
    ∙ ap (λ (m : ℕ). get_or (runs (poses ns cs gs y) k n) m nan) i
    ∙ get_or-runs (poses ns cs gs y) 7 (poses-length ns cs gs y) k n (l - k) r nan (omega arith) c
    ∙ ap (λ (m : ℕ). get_or (flat (pose_of ns cs gs y m)) r nan) back)

-- ---- losses copied to the front of another list
front_at : (rest ys : List Float) (i : ℕ) → i < length ys → get_or (splice rest 0 ys) i nan ≡ get_or ys i nan
front_at rest ys i h = let z : 0 + i ≡ i = omega arith in rw z at (get_or-splice-in rest 0 ys i nan (omega arith) h)

pub cached-front : (g : Given) (P : ℕ → Pose) (y : List Float) (from to : ℕ) (raised : Option ℕ) (n : ℕ) (fs hs cur : List Float) → Cached g P y from to raised fs → n ≡ length (objectives_of g)
    → n ≤ length fs → n ≤ length hs → cur ≡ splice hs 0 (take n fs) → Cached g P y from to raised cur
cached-front g P y from to raised n fs hs cur s e h k made =
    let t : length (take n fs) ≡ n = length-take-le n fs h in
    let T : Objective → Bool = touched g.counts from to raised in
    record {
      room = omega (arith, ap length made, length-splice hs 0 (take n fs) (omega arith));
      cached = λ i q.
          ⊎_elim
          (λ (l : i < n). ap (λ (c : List Float). get_or c i nan) made ∙ front_at hs (take n fs) i (omega arith) ∙ get_or-take n fs i nan l ∙ s.cached i q)
          (λ (l : n ≤ i). absurd (true≢false (sym (get_or-eq_default (map T (objectives_of g)) true (omega (arith, length-map (objectives_of g) T))) ∙ q)))
          (below_or i n);
    }

-- ---- the slope as code makes it
pub slope-made : (g : Given) (P : ℕ → Pose) (y fs rest hs ws : List Float) (ks : List ℕ) → ws ≡ g.weights → ks ≡ kinds_of g.picks g.counts g.codes → hs ≡ splice rest 0 (losses_of g P y)
    → weighted_by ws ks (listed (slope_between fs hs) (length ks)) ≡ slope_to g fs P y
unfolding slope_to listed slope_between
slope-made g P y fs rest hs ws ks weights kinds made =
    let ls : List Float = losses_of g P y in
    let len : length ls ≡ length (objectives_of g) = losses-many g P y in
    let n : length ks ≡ length (objectives_of g) = ap length kinds ∙ kinds-length g.picks g.counts g.codes in
    ap (weighted_by ws ks)
    (runs-ext (λ i. slope_between fs hs i ∷ []) (λ i. slope_between fs ls i ∷ []) 0 (length ks)
    (λ i h.
    let z : 0 + i ≡ i = omega arith in
    rw z (ap (λ (v : Float). ((neg (get_or fs i nan) ⊕ v) ⊘ step) ∷ []) (ap (λ (c : List Float). get_or c i nan) made ∙ front_at rest ls i (omega arith)))))
    ∙ ap (λ (k : List ℕ). weighted_by ws k (listed (slope_between fs ls) (length k))) kinds
    ∙ ap (λ (w : List Float). weighted_by w (kinds_of g.picks g.counts g.codes) (listed (slope_between fs ls) (length (kinds_of g.picks g.counts g.codes)))) weights

-- ---- a turn in the list of slopes
module _ (g : Given) (gs x : List Float) where
  abbrev cs₀ : List ℕ
  cs₀ = g.codes

  abbrev slopes₀ : ℕ → List Float
  slopes₀ n = listed (gradient_at g gs x) n

  pub slopes-turn : (xs cur new : List Float) (l : ℕ) → cur ≡ splice xs 0 (slopes₀ (joint_of cs₀ l)) → length cur ≡ length xs → joint_of cs₀ (l + 1) ≤ length xs
      → new ≡ slopes_after g gs x l cur → new ≡ splice xs 0 (slopes₀ (joint_of cs₀ (l + 1)))
  unfolding slopes_after
  slopes-turn xs cur new l e same room made = made ∙ go (eqb (get_or cs₀ l 0) 0) refl
    where
      go : (t : Bool) → eqb (get_or cs₀ l 0) 0 ≡ t → cond t cur (set cur (joint_of cs₀ l) (gradient_at g gs x (joint_of cs₀ l))) ≡ splice xs 0 (slopes₀ (joint_of cs₀ (l + 1)))
      go true q =
          let z : joint_of cs₀ (l + 1) ≡ joint_of cs₀ l = omega (arith, joint-more cs₀ l, joints-fixed (get_or cs₀ l 0) (eqb-true (get_or cs₀ l 0) 0 q)) in
          e ∙ ap (λ (m : ℕ). splice xs 0 (slopes₀ m)) (sym z)
      go false q =
          let z : joint_of cs₀ (l + 1) ≡ joint_of cs₀ l + 1 = omega (arith, joint-more cs₀ l, joints-one (get_or cs₀ l 0) (eqb-false (get_or cs₀ l 0) 0 q)) in
          listed-turn (gradient_at g gs x) xs cur (joint_of cs₀ l) (gradient_at g gs x (joint_of cs₀ l)) (omega arith) same e refl
          ∙ ap (λ (m : ℕ). splice xs 0 (slopes₀ m)) (sym z)

  pub slopes-fixed : (l : ℕ) (slopes : List Float) → get_or cs₀ l 0 ≡ 0 → slopes ≡ slopes_after g gs x l slopes
  unfolding slopes_after
  slopes-fixed l slopes z = rw (eq-eqb (get_or cs₀ l 0) 0 z)

  pub slopes-joint : (l : ℕ) (slopes : List Float) → (get_or cs₀ l 0 ≡ 0 → ⊥) → set slopes (joint_of cs₀ l) (gradient_at g gs x (joint_of cs₀ l)) ≡ slopes_after g gs x l slopes
  unfolding slopes_after
  slopes-joint l slopes z = rw (ne_eqb (get_or cs₀ l 0) 0 z)

  -- all of them
  pub slopes-all : slopes₀ (length x) ≡ gradient_of g gs x
  unfolding slopes_of slope_at
  slopes-all = refl

-- the record at a joint's turn: in front the first walk, from `a` on the links k.. of the copy
module _ (ns cs : List ℕ) (task : List Float) (picks : Picks) (gs x : List Float) (ready : Ready ns cs task gs x) (k : ℕ) (inside : k < length cs) (turns : get_or cs k 0 ≡ 0 → ⊥)
    (frames record₀ : List Float) (a : ℕ) (first : take (7 * length cs) frames ≡ frames_of ns cs gs x)
    (again : frames ≡ splice record₀ a (runs (poses ns cs gs (copy_of x (joint_of cs k))) k (end_in ns k - k)))
    (room : a + 7 * (end_in ns k - k) ≤ length record₀) where
  abbrev G : Given
  G = given_of ns cs task picks

  abbrev j : ℕ
  j = joint_of cs k

  abbrev end : ℕ
  end = end_in ns k

  abbrev y : List Float
  y = copy_of x (joint_of cs k)

  abbrev seen : ℕ → Pose
  seen = view_of frames (drop a frames) k (end_in ns k)

  first-pose : (l : ℕ) → l < length cs → list_pose frames l ≡ pose_of ns cs gs x l
  unfolding list_pose
  first-pose l h = pose-first ns cs gs x frames l h first

  -- what is seen is the copy's walk
  pub view-copy : (l : ℕ) → l < length cs → seen l ≡ pose_of ns cs gs y l
  view-copy l h =
      let w : total ns ≡ length cs = ready.sheet.whole in
      let q = end-past ns k (omega arith) in
      let outside : (l < k) ⊎ (end ≤ l) → seen l ≡ pose_of ns cs gs y l =
      λ o. view-outside frames (drop a frames) k end l (walked-false k end l o) ∙ first-pose l h ∙ sym (pose-outside ns cs gs x k turns l (omega arith) (omega arith) o) in
      ⊎_elim
      (λ (b : l < k). outside (inl b))
      (λ (b : k ≤ l).
      ⊎_elim
      (λ (c : l < end). view-again frames (drop a frames) k end l b c ∙ tail-pose ns cs gs y record₀ frames a k (end - k) l again room b (omega (arith, q)))
      (λ (c : end ≤ l). outside (inr c))
      (below_or l end))
      (below_or l k)

  pub losses-copy : losses_of G seen y ≡ losses_at G gs y
  unfolding losses_at given_of
  losses-copy = losses-ext G seen (poses_of G gs y) y ready.chains ready.paired (λ l h. view-copy l (omega (arith, ready.sheet.whole)))

  raised : y ≡ raised_by step x j
  raised = copy-joint x j (omega (arith, joint-small ns cs gs x ready.sheet k (omega arith)))

  values : (i : ℕ) → is_raised (Some j) i ≡ false → get_or x i nan ≡ get_or y i nan
  unfolding is_raised raised_by
  values i q =
      let ne : i ≡ j → ⊥ = λ e. true≢false (sym (eq-eqb j i (sym e)) ∙ q) in
      sym (get_or-set_other x j i (get_or x j nan ⊕ step) nan ne) ∙ ap (λ (z : List Float). get_or z i nan) (sym raised)

  module _ (ks : List ℕ) (fs slopes : List Float) (known : Basis ns cs task picks gs x ks fs slopes) where
    many : length ks ≡ length (objectives_of G)
    unfolding given_of
    many = ap length known.kinds ∙ kinds-length picks ns cs

    -- the first walk's losses stand where the copy touches nothing
    pub cached-copy : Cached G seen y k end (Some j) fs
    unfolding losses_at given_of
    cached-copy =
        cached-again G (list_pose frames) seen x y k end (Some j) (λ l q. sym (view-outside frames (drop a frames) k end l q)) values
        (numbers-raised x j (joint-in-block ns cs gs x ready.sheet k inside turns) ∙ ap any_nan (sym raised))
        fs (omega (arith, many, known.losses-room))
        (λ i l.
        sym (get_or-take (length ks) fs i nan (omega (arith, many))) ∙ ap (λ (z : List Float). get_or z i nan)
        (known.losses ∙ sym (losses-ext G (list_pose frames) (poses_of G gs x) x ready.chains ready.paired (λ l h. first-pose l (omega (arith, ready.sheet.whole))))))

    -- so the slope is the gradient's entry
    pub slope-copy : slope_to G fs seen y ≡ gradient_at G gs x j
    unfolding slope_to gradient_at given_of
    slope-copy =
        let os : List ℕ = kinds_of picks ns cs in
        weighted-slopes G gs x os refl (raised_by step x j) fs (losses_of G seen y) (ap (λ (n : List ℕ). take (length n) fs) (sym known.kinds) ∙ known.losses)
        (take_all (length os) (losses_of G seen y) (omega (arith, losses-many G seen y, kinds-length picks ns cs)) ∙ losses-copy ∙ ap (losses_at G gs) raised)

    -- the same, of a block, an end and a joint number that are known to be these
    module _ (block : List Float) (to : ℕ) (is : block ≡ y) (ends : to ≡ end) where
      pub cached-at : (joint : ℕ) → joint ≡ j → Cached G (view_of frames (drop a frames) k to) block k to (Some joint) fs
      cached-at joint number = rw (is, ends, number) cached-copy

      pub slope-at : slope_to G fs (view_of frames (drop a frames) k to) block ≡ gradient_at G gs x j
      slope-at = rw (is, ends) slope-copy
