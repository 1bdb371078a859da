-- Losses that stand already: those of objectives that read no link that was walked again, and no joint that was raised.
use Rattle.std.specs.Prelude.{◌≡◌, Bool, Option, Some, None, eqb, Float, take, drop}
use Rattle.std.proofs.Math.Path.{refl, ap}
use Rattle.std.proofs.Common.{sym, ◌∙◌, length-append, length-drop, take-append-drop, ext_get_or, length-take-le, get_or-take, get_or-drop, drop-drop}
use Rattle.std.proofs.Math.Bool.{true, false}
use mathlib.Core.List.{List, [], ◌∷◌, ◌++◌, map, append_assoc}
use Prim.Native.Nat.{ℕ, zero, suc, ◌+◌, ◌-◌, ◌*◌, ◌≤◌, ◌<◌}
use native.Mathlib.Omega.{arith}
use Rattle.std.proofs.Math.Dec.{leb}
use Rattle.std.specs.Float.Ieee.{nan}
use Rattle.std.proofs.Math.ListN.{length, get_or, length-map}
use borrow.Author.Tests.{lt-leb}
use Rattle.geometry.specs.declared.pose.Pose.{Pose}
use Rattle.lists.specs.Splice.{splice, length-splice, splice-splice, get_or-splice-after}
use Rattle.lists.specs.Runs.{runs, length_runs}
use Rattle.task.specs.Task.{Given}
use Rattle.sheet.specs.Chain.{total, chain_start, joints}
use Rattle.spacetime.specs.Tool.{tip_of}
use Rattle.manipulability.specs.View.{walked_again}
use Rattle.groove.specs.Loss.{any_nan}
use Rattle.self_collision.specs.Pairs.{Pair, pair, all_pairs, first_arm, chain_lengths, pair_loss, pair_last, pair_losses, pair_lasts, CachedPairs, lengths-count}
use Rattle.objective_master.specs.Objective.{Objective, MatchEEPosiDoF, MatchEERotaDoF, MatchEEPosGoals, MatchEEQuatGoals, EachJointLimits, MinimizeVelocity, MinimizeAcceleration, MinimizeJerk, MaximizeManipulability, SelfCollision, goal_width, goal_objectives, pair_objective, picked_list, count, at-goal, at-limit, at_pair}
use Rattle.objective_master.specs.Losses.{loss_of, losses_of, objectives_of, pose_losses, goal_losses, limit_loss, limit_losses, motion_losses, goal-losses, goal-length, limit-length, motion-length, lengths-total, losses-sections}

-- chain c's last link was walked again
unfoldable pub end_again : List ℕ → ℕ → ℕ → ℕ → Bool
end_again ns from to c = walked_again from to (chain_start ns c + get_or ns c 0 - 1)

-- joint j was raised; none: all joints are new
unfoldable pub is_raised : Option ℕ → ℕ → Bool
is_raised None j = true
is_raised (Some joint) j = eqb joint j

-- the objective reads a link that was walked again, or the raised joint
unfoldable pub touched : List ℕ → ℕ → ℕ → Option ℕ → Objective → Bool
touched ns from to raised (MatchEEPosiDoF c a) = end_again ns from to c
touched ns from to raised (MatchEERotaDoF c a) = end_again ns from to c
touched ns from to raised (MatchEEPosGoals c) = end_again ns from to c
touched ns from to raised (MatchEEQuatGoals c) = end_again ns from to c
touched ns from to raised (EachJointLimits j) = is_raised raised j
touched ns from to raised MinimizeVelocity = true
touched ns from to raised MinimizeAcceleration = true
touched ns from to raised MinimizeJerk = true
touched ns from to raised MaximizeManipulability = true
touched ns from to raised (SelfCollision arm j k) = leb from (pair_last ns (pair arm j k))

-- there is room for the losses, and those of objectives that are not touched stand there
pub record Cached (g : Given) (P : ℕ → Pose) (x : List Float) (from to : ℕ) (raised : Option ℕ) (out : List Float) : Type 0 where
  pub room : length (objectives_of g) ≤ length out
  pub cached : (i : ℕ) → get_or (map (touched g.counts from to raised) (objectives_of g)) i true ≡ false → get_or out i nan ≡ get_or (losses_of g P x) i nan

-- how many a chain's goal has
abbrev pub width_in : Given → ℕ
width_in g = goal_width g.picks.strict

-- ---- of a piece, and of the pieces of a section

-- unless touched, the piece stands there
abbrev pub CachedPiece : Bool → ℕ → List Float → List Float → Type 0
CachedPiece t at ys out = t ≡ false → out ≡ splice out at ys

-- n pieces of w floats each from at on
pub record CachedPieces (f : ℕ → List Float) (w : ℕ) (t : ℕ → Bool) (at n : ℕ) (out : List Float) : Type 0 where
  pub room : at + n * w ≤ length out
  pub cached : (i r : ℕ) → i < n → r < w → t i ≡ false → get_or out (at + (i * w + r)) nan ≡ get_or (f i) r nan

-- ---- laws
cached-same : (xs : List Float) (at : ℕ) (ys : List Float) → at + length ys ≤ length xs → ((r : ℕ) → r < length ys → get_or xs (at + r) nan ≡ get_or ys r nan) → xs ≡ splice xs at ys
unfolding splice
cached-same xs at ys h same =
    let n : ℕ = length ys in
    let m : n ≤ length (drop at xs) = omega (arith, length-drop at xs) in
    let l : length (take n (drop at xs)) ≡ n = length-take-le n (drop at xs) m in
    let e : take n (drop at xs) ≡ ys = ext_get_or nan (take n (drop at xs)) ys l (λ i b. get_or-take n (drop at xs) i nan (omega arith) ∙ get_or-drop at xs i nan ∙ same i (omega arith)) in
    sym (take-append-drop at xs)
    ∙ ap (λ (z : List Float). take at xs ++ z) (sym (take-append-drop n (drop at xs)) ∙ ap (λ (z : List Float). z ++ drop n (drop at xs)) e ∙ ap (λ (z : List Float). ys ++ z) (drop-drop n at xs))

-- the next piece, where those before it were written
pub piece-turn : (f : ℕ → List Float) (w : ℕ) → ((i : ℕ) → length (f i) ≡ w) → (t : ℕ → Bool) (at n : ℕ) (xs cur : List Float) (i k : ℕ) → CachedPieces f w t at n xs
    → cur ≡ splice xs at (runs f 0 i) → i < n → (i + 1) * w ≤ n * w → k ≡ at + i * w → CachedPiece (t i) k (f i) cur
piece-turn f w each t at n xs cur i k s e h fit ek q =
    let ys : List Float = runs f 0 i in
    let l : length ys ≡ i * w = length_runs f w each 0 i in
    let z : (i + 1) * w ≡ i * w + w = omega arith in
    let len : length cur ≡ length xs = ap length e ∙ length-splice xs at ys (omega (arith, s.room)) in
    cached-same cur k (f i) (omega (arith, each i, s.room))
    (λ r b.
    let z₁ : k + r ≡ at + length ys + r = omega arith in
    let z₂ : at + length ys + r ≡ at + (i * w + r) = omega arith in
    ap (λ (c : List Float). get_or c (k + r) nan) e
    ∙ ap (λ (j : ℕ). get_or (splice xs at ys) j nan) z₁
    ∙ get_or-splice-after xs at ys r nan (omega (arith, s.room))
    ∙ ap (λ (j : ℕ). get_or xs j nan) z₂
    ∙ s.cached i r h (omega (arith, each i)) q)

-- a chain's goal, by the number of its last link
pub goal-is : (strict : Bool) (ns : List ℕ) (goals tools : List Float) (P : ℕ → Pose) (c l : ℕ) → l ≡ chain_start ns c
    → pose_losses strict goals c (tip_of tools c (P (l + get_or ns c 0 - 1))) ≡ goal_losses strict ns goals tools P c
unfolding goal_losses
goal-is strict ns goals tools P c l e = ap (λ (k : ℕ). pose_losses strict goals c (tip_of tools c (P (k + get_or ns c 0 - 1)))) e

pub goal-cached : (strict : Bool) (ns : List ℕ) (goals tools : List Float) (P : ℕ → Pose) (from to c l k : ℕ) (out : List Float) → l ≡ chain_start ns c
    → CachedPiece (end_again ns from to c) k (goal_losses strict ns goals tools P c) out
    → CachedPiece (walked_again from to (l + get_or ns c 0 - 1)) k (pose_losses strict goals c (tip_of tools c (P (l + get_or ns c 0 - 1)))) out
unfolding end_again
goal-cached strict ns goals tools P from to c l k out e h q =
    h (ap (λ (m : ℕ). walked_again from to (m + get_or ns c 0 - 1)) (sym e) ∙ q) ∙ ap (splice out k) (sym (goal-is strict ns goals tools P c l e))

-- ---- from the whole list to its sections
pub map_at : {A B : Type 0} (h : A → B) (xs : List A) (i : ℕ) (a : A) (b : B) → i < length xs → get_or (map h xs) i b ≡ h (get_or xs i a)
map_at h [] i a b l = absurd (omega arith)
map_at h (x ∷ xs) zero a b l = refl
map_at h (x ∷ xs) (suc i) a b l = map_at h xs i a b (omega arith)

-- what stands behind the losses that were written
pub behind : (xs cur ys : List Float) (i : ℕ) → length ys ≤ length xs → cur ≡ splice xs 0 ys → length ys ≤ i → get_or cur i nan ≡ get_or xs i nan
behind xs cur ys i h e l =
    let z : 0 + length ys + (i - length ys) ≡ i = omega arith in
    ap (λ (c : List Float). get_or c i nan) e ∙ ap (λ (k : ℕ). get_or (splice xs 0 ys) k nan) (sym z)
    ∙ get_or-splice-after xs 0 ys (i - length ys) nan (omega arith) ∙ ap (λ (k : ℕ). get_or xs k nan) z

module _ (g : Given) (P : ℕ → Pose) (x : List Float) (from to : ℕ) (raised : Option ℕ) (xs : List Float) (s : Cached g P x from to raised xs)
    (w : total g.counts ≡ length g.codes) (v : length x ≡ joints g.codes) where
  abbrev ns : List ℕ
  ns = g.counts

  abbrev lens : List ℕ
  lens = chain_lengths g.counts g.codes

  abbrev T : Objective → Bool
  T = touched g.counts from to raised

  abbrev strict : Bool
  strict = g.picks.strict

  chains-are : length lens ≡ length ns
  chains-are = lengths-count ns g.codes

  joints-are : total lens ≡ length x
  joints-are = lengths-total ns g.codes w ∙ sym v

  goals-end : length lens * width_in g ≡ length ns * width_in g
  goals-end = ap (λ (n : ℕ). n * width_in g) chains-are

  -- a chain's goal is touched as a whole
  goal-touched : (strict : Bool) (c r : ℕ) → r < goal_width strict → get_or (map T (goal_objectives strict c)) r true ≡ end_again ns from to c
  unfolding goal_width goal_objectives touched
  goal-touched true c zero l = refl
  goal-touched true c (suc zero) l = refl
  goal-touched true c (suc (suc r)) l = absurd (omega arith)
  goal-touched false c zero l = refl
  goal-touched false c (suc zero) l = refl
  goal-touched false c (suc (suc zero)) l = refl
  goal-touched false c (suc (suc (suc zero))) l = refl
  goal-touched false c (suc (suc (suc (suc zero)))) l = refl
  goal-touched false c (suc (suc (suc (suc (suc zero))))) l = refl
  goal-touched false c (suc (suc (suc (suc (suc (suc r)))))) l = absurd (omega arith)

  pub goals-cached : CachedPieces (goal_losses strict ns g.goals g.tools P) (width_in g) (end_again ns from to) 0 (length ns) xs
  unfolding losses_of
  goals-cached =
      record {
        room = omega (arith, s.room, count (picked_list g.picks) lens, goals-end);
        cached = λ c r h l q.
            let z : 0 + (c * width_in g + r) ≡ c * width_in g + r = omega arith in
            let b : c < length lens = omega (arith, chains-are) in
            ap (λ (k : ℕ). get_or xs k nan) z
            ∙ s.cached (c * width_in g + r) (at-goal T (picked_list g.picks) lens c r true b l ∙ goal-touched strict c r l ∙ q)
            ∙ at-goal (loss_of g P x) (picked_list g.picks) lens c r nan b l
            ∙ ap (λ (k : List Float). get_or k r nan) (goal-losses g P x strict c);
      }

  module _ (cur : List Float) (len : length cur ≡ length xs) where
    pub limits-cached : (at : ℕ) → at ≡ length ns * width_in g → ((i : ℕ) → at ≤ i → get_or cur i nan ≡ get_or xs i nan)
        → CachedPieces (limit_losses g.limits x) 1 (is_raised raised) at (length x) cur
    unfolding losses_of loss_of touched limit_losses
    limits-cached at e same =
        record {
          room = omega (arith, s.room, count (picked_list g.picks) lens, goals-end, joints-are);
          cached = λ j r h l q.
              let z : at + (j * 1 + r) ≡ length lens * width_in g + j = omega (arith, goals-end) in
              let b : j < total lens = omega (arith, joints-are) in
              let r₀ : r ≡ 0 = omega arith in
              same (at + (j * 1 + r)) (omega arith)
              ∙ ap (λ (k : ℕ). get_or xs k nan) z
              ∙ s.cached (length lens * width_in g + j) (at-limit T (picked_list g.picks) lens j true b ∙ q)
              ∙ at-limit (loss_of g P x) (picked_list g.picks) lens j nan b
              ∙ ap (λ (k : ℕ). get_or (limit_loss g.limits x j ∷ []) k nan) (sym r₀);
        }

    pub pairs-cached : (at : ℕ) → at ≡ length ns * width_in g + length x + 4 → ((i : ℕ) → at ≤ i → get_or cur i nan ≡ get_or xs i nan)
        → CachedPairs (pair_lasts ns first_arm lens) (pair_losses ns P first_arm lens (any_nan x)) from at cur
    unfolding losses_of loss_of touched pair_objective pair_lasts pair_losses
    pairs-cached at e same =
        let ps : List Pair = all_pairs first_arm lens in
        let many : length (map (pair_loss ns P (any_nan x)) ps) ≡ length ps = length-map ps (pair_loss ns P (any_nan x)) in
        record {
          room = omega (arith, s.room, count (picked_list g.picks) lens, goals-end, joints-are);
          cached = λ i h q.
              let z : at + i ≡ length lens * width_in g + (total lens + (4 + i)) = omega (arith, goals-end, joints-are) in
              let b : i < length ps = omega arith in
              let l : ℕ = pair_last ns (get_or ps i (pair 0 0 0)) in
              let t : leb from l ≡ false = lt-leb from l (omega (arith, map_at (pair_last ns) ps i (pair 0 0 0) 0 b)) in
              same (at + i) (omega arith)
              ∙ ap (λ (k : ℕ). get_or xs k nan) z
              ∙ s.cached (length lens * width_in g + (total lens + (4 + i))) (at_pair T (picked_list g.picks) lens i true ∙ map_at (λ p. T (pair_objective p)) ps i (pair 0 0 0) true b ∙ t)
              ∙ at_pair (loss_of g P x) (picked_list g.picks) lens i nan;
        }

-- ---- section after section
joined : (xs cur new ys zs : List Float) (k : ℕ) → cur ≡ splice xs 0 ys → new ≡ splice cur k zs → k ≡ length ys → length ys ≤ length xs → new ≡ splice xs 0 (ys ++ zs)
joined xs cur new ys zs k e₁ e₂ e₃ h =
    e₂ ∙ ap (λ (c : List Float). splice c k zs) e₁ ∙ splice-splice xs 0 k ys zs (omega arith) (omega arith)

module _ (g : Given) (P : ℕ → Pose) (x : List Float) (o₀ o₁ : List Float) (w : total g.counts ≡ length g.codes) (v : length x ≡ joints g.codes)
    (room : length (objectives_of g) ≤ length o₀)
    (e₁ : o₁ ≡ splice o₀ 0 (runs (goal_losses g.picks.strict g.counts g.goals g.tools P) 0 (length g.counts))) where
  abbrev goals : List Float
  goals = runs (goal_losses g.picks.strict g.counts g.goals g.tools P) 0 (length g.counts)

  abbrev limits : List Float
  limits = runs (limit_losses g.limits x) 0 (length x)

  abbrev motion : List Float
  motion = motion_losses P g.counts g.codes x g.xopt g.prev_state g.prev_state2

  pub enough : length g.counts * width_in g + length x + 4 + length (all_pairs first_arm (chain_lengths g.counts g.codes)) ≤ length o₀
  enough =
      omega (
        arith,
        room,
        count (picked_list g.picks) (chain_lengths g.counts g.codes),
        ap (λ (n : ℕ). n * width_in g) (lengths-count g.counts g.codes),
        lengths-total g.counts g.codes w,
      )

  goals-many : length goals ≡ length g.counts * width_in g
  goals-many = length_runs (goal_losses g.picks.strict g.counts g.goals g.tools P) (width_in g) (goal-length g.picks.strict g.counts g.goals g.tools P) 0 (length g.counts) ∙ omega arith

  limits-many : length (goals ++ limits) ≡ length g.counts * width_in g + length x
  limits-many =
      length-append goals limits ∙ omega (arith, goals-many, length_runs (limit_losses g.limits x) 1 (limit-length g.limits x) 0 (length x))

  motion-many : length ((goals ++ limits) ++ motion) ≡ length g.counts * width_in g + length x + 4
  motion-many = length-append (goals ++ limits) motion ∙ omega (arith, limits-many, motion-length P g.counts g.codes x g.xopt g.prev_state g.prev_state2)

  -- after the goals
  pub length-one : length o₁ ≡ length o₀
  length-one = ap length e₁ ∙ length-splice o₀ 0 goals (omega (arith, goals-many, enough))

  pub behind-one : (i : ℕ) → length g.counts * width_in g ≤ i → get_or o₁ i nan ≡ get_or o₀ i nan
  behind-one i h = behind o₀ o₁ goals i (omega (arith, goals-many, enough)) e₁ (omega (arith, goals-many))

  module _ (o₂ : List Float) (k₂ : ℕ) (q₂ : k₂ ≡ length g.counts * width_in g) (e₂ : o₂ ≡ splice o₁ k₂ limits) where
    -- after the limits
    made-two : o₂ ≡ splice o₀ 0 (goals ++ limits)
    made-two = joined o₀ o₁ o₂ goals limits k₂ e₁ e₂ (omega (arith, goals-many)) (omega (arith, goals-many, enough))

    pub length_two : length o₂ ≡ length o₀
    length_two = ap length made-two ∙ length-splice o₀ 0 (goals ++ limits) (omega (arith, limits-many, enough))

    module _ (o₃ : List Float) (k₃ : ℕ) (q₃ : k₃ ≡ length g.counts * width_in g + length x) (e₃ : o₃ ≡ splice o₂ k₃ motion) where
      -- after the four of all joints
      made-three : o₃ ≡ splice o₀ 0 ((goals ++ limits) ++ motion)
      made-three = joined o₀ o₂ o₃ (goals ++ limits) motion k₃ made-two e₃ (omega (arith, limits-many)) (omega (arith, limits-many, enough))

      pub length_three : length o₃ ≡ length o₀
      length_three = ap length made-three ∙ length-splice o₀ 0 ((goals ++ limits) ++ motion) (omega (arith, motion-many, enough))

      pub behind-three : (i : ℕ) → length g.counts * width_in g + length x + 4 ≤ i → get_or o₃ i nan ≡ get_or o₀ i nan
      behind-three i h = behind o₀ o₃ ((goals ++ limits) ++ motion) i (omega (arith, motion-many, enough)) made-three (omega (arith, motion-many))

      -- and after the pairs
      pub losses-made : (o₄ : List Float) (k₄ : ℕ) → k₄ ≡ length g.counts * width_in g + length x + 4
          → o₄ ≡ splice o₃ k₄ (pair_losses g.counts P first_arm (chain_lengths g.counts g.codes) (any_nan x)) → o₄ ≡ splice o₀ 0 (losses_of g P x)
      losses-made o₄ k₄ q₄ e₄ =
          let last : List Float = pair_losses g.counts P first_arm (chain_lengths g.counts g.codes) (any_nan x) in
          joined o₀ o₃ o₄ ((goals ++ limits) ++ motion) last k₄ made-three e₄ (omega (arith, motion-many)) (omega (arith, motion-many, enough))
          ∙ ap (splice o₀ 0) (append_assoc (goals ++ limits) motion last ∙ append_assoc goals limits (motion ++ last) ∙ sym (losses-sections g P x w v))
