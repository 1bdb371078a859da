-- Theorems on standing losses: what is asked where nothing stands, and whose losses stand.
use Rattle.std.specs.Prelude.{◌≡◌, Bool, Option, None, Float}
use Rattle.std.proofs.Math.Path.{refl, sym, ap}
use Rattle.std.proofs.Common.{subst, ◌∙◌, true≢false, arith}
use Rattle.std.proofs.Math.Bool.{true, false}
use Rattle.std.proofs.Math.Logic.{⊎_elim}
use mathlib.Core.List.{List, [], ◌∷◌, map}
use Prim.Native.Nat.{ℕ, suc, ◌+◌, ◌-◌, ◌*◌, ◌≤◌, ◌<◌}
use Rattle.std.specs.Float.Ieee.{nan}
use Rattle.std.proofs.Math.ListN.{length, get_or, length-map, get_or-eq_default}
use borrow.Author.Tests.{lt-ltb, le-leb, lt-leb, leb-false}
use Rattle.geometry.specs.declared.pose.Pose.{Pose}
use Rattle.task.specs.Task.{Given}
use Rattle.sheet.specs.Chain.{total, chain_start, below_or}
use Rattle.spacetime.specs.Tool.{tip_of}
use Rattle.spacetime.specs.Frames.{end_of, Chains, chain-within}
use Rattle.manipulability.specs.Jacobian.{manipulability-ext}
use Rattle.groove.specs.Loss.{any_nan, maximize_manipulability, each_joint_limits}
use Rattle.self_collision.specs.Pairs.{Pair, pair, first_arm, chain_lengths, pair_loss, pair_last, Paired, lengths-count, lengths-at, arm-fits}
use Rattle.self_collision.specs.Skip.{skipped}
use Rattle.objective_master.specs.Objective.{Objective, MinimizeVelocity, ObjectiveList, picked_list, objectives}
use Rattle.objective_master.specs.Strict.{pos_goals_loss, quat_goals_loss}
use Rattle.objective_master.specs.Losses.{goal_position, goal_quat, off_loss, turn_loss, limit_loss, loss_of, losses_of, objectives_of}
use Rattle.manipulability.specs.View.{walked_again}
use Rattle.objective_master.specs.Cached.{end_again, is_raised, touched, Cached, map_at}
use Rattle.objective_master.specs.Every.{every-goal, objectives-each}

-- ---- with every link walked and every joint new, room is all that is asked
module _ (g : Given) (chains : Chains g.counts) where
  abbrev lens₀ : List ℕ
  lens₀ = chain_lengths g.counts g.codes

  abbrev list₀ : ObjectiveList
  list₀ = picked_list g.picks

  abbrev T₀ : Objective → Bool
  T₀ = touched g.counts 0 (total g.counts) None

  end-new : (c : ℕ) → c < length lens₀ → end_again g.counts 0 (total g.counts) c ≡ true
  unfolding end_again walked_again
  end-new c h =
      let ns : List ℕ = g.counts in
      let l : c < length ns = omega (arith, lengths-count ns g.codes) in
      let e : ℕ = chain_start ns c + get_or ns c 0 - 1 in
      rw (le-leb 0 e (omega arith), lt-ltb e (total ns) (omega (arith, chain-within ns c l, chains.some c l)))

  all_new : (i : ℕ) → get_or (map T₀ (objectives list₀ lens₀)) i true ≡ true
  unfolding touched is_raised
  all_new i =
      ⊎_elim
      (λ (l : i < length (objectives list₀ lens₀)).
      map_at T₀ (objectives list₀ lens₀) i MinimizeVelocity true l
      ∙ objectives-each (λ (o : Objective). T₀ o ≡ true) list₀ lens₀ (λ c h. every-goal (λ (o : Objective). T₀ o ≡ true) g.picks.strict c (λ a. end-new c h) (λ a. end-new c h) (end-new c h) (end-new c h))
      (λ j h. refl) refl refl refl refl (λ c j k h a b. le-leb 0 (pair_last g.counts (pair (first_arm c) j k)) (omega arith)) i l)
      (λ (l : length (objectives list₀ lens₀) ≤ i). get_or-eq_default (map T₀ (objectives list₀ lens₀)) true (omega (arith, length-map (objectives list₀ lens₀) T₀)))
      (below_or i (length (objectives list₀ lens₀)))

  pub cached-new : (P : ℕ → Pose) (x out : List Float) → length (objectives_of g) ≤ length out → Cached g P x 0 (total g.counts) None out
  cached-new P x out h = record { room = h; cached = λ i q. absurd (true≢false (sym (all_new i) ∙ q)) }

  pub cached-at : (P : ℕ → Pose) (x out : List Float) {to : ℕ} → to ≡ total g.counts → length (objectives_of g) ≤ length out → Cached g P x 0 to None out
  cached-at P x out e h = subst (λ (k : ℕ). Cached g P x 0 k None out) (sym e) (cached-new P x out h)

-- ---- poses P and joints x, walked again as Q and raised to y: the losses of the first stand for the second
module _ (g : Given) (P Q : ℕ → Pose) (x y : List Float) (from to : ℕ) (raised : Option ℕ) (poses : (l : ℕ) → walked_again from to l ≡ false → P l ≡ Q l)
    (values : (j : ℕ) → is_raised raised j ≡ false → get_or x j nan ≡ get_or y j nan) (numbers : any_nan x ≡ any_nan y) where
  abbrev os : List Objective
  os = objectives (picked_list g.picks) (chain_lengths g.counts g.codes)

  abbrev T : Objective → Bool
  T = touched g.counts from to raised

  before : (l : ℕ) → l < from → P l ≡ Q l
  unfolding walked_again
  before l h = poses l (rw (lt-leb from l h))

  -- an objective that is not touched costs the same
  pub untouched : (i : ℕ) → i < length os → T (get_or os i MinimizeVelocity) ≡ false → loss_of g P x (get_or os i MinimizeVelocity) ≡ loss_of g Q y (get_or os i MinimizeVelocity)
  unfolding touched loss_of end_again limit_loss
  untouched =
      let Same : Objective → Type 0 = λ o. T o ≡ false → loss_of g P x o ≡ loss_of g Q y o in
      objectives-each Same (picked_list g.picks) (chain_lengths g.counts g.codes)
      (λ c h.
      let end : ℕ = chain_start g.counts c + get_or g.counts c 0 - 1 in
      every-goal Same g.picks.strict c
      (λ a q. ap (λ (p : Pose). off_loss g.goals c (tip_of g.tools c p) a) (poses end q))
      (λ a q. ap (λ (p : Pose). turn_loss g.goals c (tip_of g.tools c p) a) (poses end q))
      (λ q. ap (λ (p : Pose). pos_goals_loss (goal_position g.goals c) (tip_of g.tools c p).position) (poses end q))
      (λ q. ap (λ (p : Pose). quat_goals_loss (goal_quat g.goals c) (tip_of g.tools c p).rotation) (poses end q)))
      (λ j h q. ap (λ (v : Float). each_joint_limits v (get_or g.limits (2 * j) nan) (get_or g.limits (2 * j + 1) nan)) (values j q))
      (λ q. absurd (true≢false q)) (λ q. absurd (true≢false q)) (λ q. absurd (true≢false q)) (λ q. absurd (true≢false q))
      (λ c j k h a b q.
      let p : Pair = pair (first_arm c) j k in
      skipped g.counts P Q (any_nan x) from before p (omega arith) (leb-false from (pair_last g.counts p) q)
      ∙ ap (λ (n : Bool). pair_loss g.counts Q n p) numbers)

  pub cached-again : (out : List Float) → length os ≤ length out → ((i : ℕ) → i < length os → get_or out i nan ≡ get_or (losses_of g P x) i nan)
      → Cached g Q y from to raised out
  unfolding losses_of
  cached-again out room stood =
      record {
        room = room;
        cached = λ i q.
            ⊎_elim
            (λ (l : i < length os).
            stood i l ∙ map_at (loss_of g P x) os i MinimizeVelocity nan l ∙ untouched i l (sym (map_at T os i MinimizeVelocity true l) ∙ q)
            ∙ sym (map_at (loss_of g Q y) os i MinimizeVelocity nan l))
            (λ (l : length os ≤ i).
            absurd (true≢false (sym (get_or-eq_default (map T os) true (omega (arith, length-map os T))) ∙ q)))
            (below_or i (length os));
      }

-- ---- the losses look at no link past the last chain
map_same : (h k : Objective → Float) (os : List Objective) → ((i : ℕ) → i < length os → h (get_or os i MinimizeVelocity) ≡ k (get_or os i MinimizeVelocity)) → map h os ≡ map k os
map_same h k [] each = refl
map_same h k (o ∷ os) each =
    let e : h o ≡ k o = each 0 (omega arith) in
    let t : map h os ≡ map k os = map_same h k os (λ i l. each (suc i) (omega arith)) in
    cc

pub losses-ext : (g : Given) (P Q : ℕ → Pose) (x : List Float) → Chains g.counts → Paired g.counts g.codes → ((l : ℕ) → l < total g.counts → P l ≡ Q l)
    → losses_of g P x ≡ losses_of g Q x
unfolding losses_of loss_of pair_last
losses-ext g P Q x chains paired same =
    let ns : List ℕ = g.counts in
    let cs : List ℕ = g.codes in
    let lens : List ℕ = chain_lengths ns cs in
    let w : total ns ≡ length cs = paired.counted.whole in
    let n : length lens ≡ length ns = lengths-count ns cs in
    let last : (c : ℕ) → c < length lens → end_of ns g.tools P c ≡ end_of ns g.tools Q c =
    λ c h. ap (tip_of g.tools c) (same (chain_start ns c + get_or ns c 0 - 1) (omega (arith, chain-within ns c (omega arith), chains.some c (omega arith)))) in
    let Same : Objective → Type 0 = λ o. loss_of g P x o ≡ loss_of g Q x o in
    map_same (loss_of g P x) (loss_of g Q x) (objectives (picked_list g.picks) lens)
    (objectives-each Same (picked_list g.picks) lens
    (λ c h. every-goal Same g.picks.strict c
    (λ a. ap (λ (p : Pose). off_loss g.goals c p a) (last c h))
    (λ a. ap (λ (p : Pose). turn_loss g.goals c p a) (last c h))
    (ap (λ (p : Pose). pos_goals_loss (goal_position g.goals c) p.position) (last c h))
    (ap (λ (p : Pose). quat_goals_loss (goal_quat g.goals c) p.rotation) (last c h)))
    (λ j h. refl) refl refl refl (ap maximize_manipulability (manipulability-ext P Q ns cs same))
    (λ c j k h a b.
    skipped ns P Q (any_nan x) (length cs) (λ l m. same l (omega arith)) (pair (first_arm c) j k) (omega arith)
    (omega (arith, lengths-at ns cs c (omega arith), arm-fits ns cs c (omega arith) paired))))
