-- What holds of every objective of a list.
use Rattle.std.specs.Prelude.{◌≡◌, Bool, get_or}
use Rattle.std.proofs.Common.{sym, ap, ◌∙◌, ⊎_elim, arith, length-append, get_or-append-add}
use Rattle.std.proofs.Math.Path.{subst}
use Rattle.std.proofs.Math.Bool.{true, false}
use mathlib.Core.List.{List, ◌++◌, map}
use Prim.Native.Nat.{ℕ, zero, suc, ◌+◌, ◌-◌, ◌≤◌, ◌<◌}
use Rattle.std.proofs.Math.ListN.{length, length-map, get_or-append}
use Rattle.lists.specs.Runs.{runs}
use Rattle.sheet.specs.Chain.{total, below_or}
use Rattle.self_collision.specs.Pairs.{Pair, pair, all_pairs}
use Rattle.self_collision.specs.Skip.{pairs-each}
use Rattle.objective_master.specs.Objective.{Objective, MatchEEPosiDoF, MatchEERotaDoF, MatchEEPosGoals, MatchEEQuatGoals, EachJointLimits, MinimizeVelocity, MinimizeAcceleration, MinimizeJerk, MaximizeManipulability, SelfCollision, goal_objectives, limit_objective, motion_objectives, pair_objective, ObjectiveList, objectives}
use Rattle.objective_master.specs.Cached.{map_at}

module _ (Q : Objective → Type 0) where
  abbrev pub Every : List Objective → Type 0
  Every os = (i : ℕ) → i < length os → Q (get_or os i MinimizeVelocity)

  every_append : (xs ys : List Objective) → Every xs → Every ys → Every (xs ++ ys)
  every_append xs ys a b i h =
      ⊎_elim
      (λ (l : i < length xs). subst Q (sym (get_or-append xs ys MinimizeVelocity i l)) (a i l))
      (λ (l : length xs ≤ i).
      let e : length xs + (i - length xs) ≡ i = omega arith in
      subst Q (sym (get_or-append-add xs ys (i - length xs) MinimizeVelocity) ∙ ap (λ (k : ℕ). get_or (xs ++ ys) k MinimizeVelocity) e)
      (b (i - length xs) (omega (arith, length-append xs ys))))
      (below_or i (length xs))

  every-runs : (f : ℕ → List Objective) (n : ℕ) → ((c : ℕ) → c < n → Every (f c)) → Every (runs f 0 n)
  unfolding runs
  every-runs f zero each = λ i h. absurd (omega arith)
  every-runs f (suc n) each = every_append (runs f 0 n) (f (0 + n)) (every-runs f n (λ c h. each c (omega arith))) (each (0 + n) (omega arith))

  pub every-goal : (strict : Bool) (c : ℕ) → ((a : ℕ) → Q (MatchEEPosiDoF c a)) → ((a : ℕ) → Q (MatchEERotaDoF c a))
      → Q (MatchEEPosGoals c) → Q (MatchEEQuatGoals c) → Every (goal_objectives strict c)
  unfolding goal_objectives
  every-goal true c p r pos quat zero h = pos
  every-goal true c p r pos quat (suc zero) h = quat
  every-goal true c p r pos quat (suc (suc i)) h = absurd (omega arith)
  every-goal false c p r pos quat zero h = p 0
  every-goal false c p r pos quat (suc zero) h = p 1
  every-goal false c p r pos quat (suc (suc zero)) h = p 2
  every-goal false c p r pos quat (suc (suc (suc zero))) h = r 0
  every-goal false c p r pos quat (suc (suc (suc (suc zero)))) h = r 1
  every-goal false c p r pos quat (suc (suc (suc (suc (suc zero))))) h = r 2
  every-goal false c p r pos quat (suc (suc (suc (suc (suc (suc i)))))) h = absurd (omega arith)

  every-limit : (j : ℕ) → Q (EachJointLimits j) → Every (limit_objective j)
  unfolding limit_objective
  every-limit j q zero h = q
  every-limit j q (suc i) h = absurd (omega arith)

  every-motion : Q MinimizeVelocity → Q MinimizeAcceleration → Q MinimizeJerk → Q MaximizeManipulability → Every motion_objectives
  unfolding motion_objectives
  every-motion v a j m zero h = v
  every-motion v a j m (suc zero) h = a
  every-motion v a j m (suc (suc zero)) h = j
  every-motion v a j m (suc (suc (suc zero))) h = m
  every-motion v a j m (suc (suc (suc (suc i)))) h = absurd (omega arith)

  every-pair : (arms : ℕ → ℕ) (lens : List ℕ) → ((c j k : ℕ) → c < length lens → j + 2 ≤ k → k < get_or lens c 0 → Q (SelfCollision (arms c) j k))
      → Every (map pair_objective (all_pairs arms lens))
  unfolding pair_objective
  every-pair arms lens pairs i h =
      let ps : List Pair = all_pairs arms lens in
      let l : i < length ps = omega (arith, length-map ps pair_objective) in
      subst Q (sym (map_at pair_objective ps i (pair 0 0 0) MinimizeVelocity l)) (pairs-each (λ (p : Pair). Q (pair_objective p)) arms lens pairs i l)

  pub objectives-each : (list : ObjectiveList) (lens : List ℕ)
      → ((c : ℕ) → c < length lens → Every (list.goals c)) → ((j : ℕ) → j < total lens → Q (EachJointLimits j))
      → Q MinimizeVelocity → Q MinimizeAcceleration → Q MinimizeJerk → Q MaximizeManipulability
      → ((c j k : ℕ) → c < length lens → j + 2 ≤ k → k < get_or lens c 0 → Q (SelfCollision (list.arms c) j k))
      → Every (objectives list lens)
  unfolding objectives
  objectives-each list lens goals limits velocity acceleration jerk manipulability pairs =
      let last : List Objective = map pair_objective (all_pairs list.arms lens) in
      every_append (runs list.goals 0 (length lens)) (runs limit_objective 0 (total lens) ++ (motion_objectives ++ last))
      (every-runs list.goals (length lens) goals)
      (every_append (runs limit_objective 0 (total lens)) (motion_objectives ++ last)
      (every-runs limit_objective (total lens) (λ j h. every-limit j (limits j h)))
      (every_append motion_objectives last (every-motion velocity acceleration jerk manipulability) (every-pair list.arms lens pairs)))
