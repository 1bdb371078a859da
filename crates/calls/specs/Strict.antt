-- The two lists of objectives, their goals written out apart from the definition by which code goes, and which of them a call goes by. What an objective costs does not depend on the pick.
use Rattle.std.specs.Prelude.{◌≡◌, refl, Bool, true, false, length}
use Rattle.std.proofs.Math.Path.{ap, fun_ext}
use mathlib.Core.List.{List, [], ◌∷◌, ◌++◌, map}
use Prim.Native.Nat.{ℕ}
use Rattle.std.specs.Float.Ieee.{Float, neg}
use Rattle.standins.specs.Num.{◌⊕◌, ◌⊘◌}
use Rattle.geometry.specs.declared.pose.Pose.{Pose}
use Rattle.lists.specs.Runs.{runs}
use Rattle.lists.specs.Listed.{listed}
use Rattle.sheet.specs.Chain.{total}
use Rattle.task.specs.declared.picks.Picks.{Picks}
use Rattle.task.specs.Task.{Given}
use Rattle.self_collision.specs.Pairs.{all_pairs, first_arm, chain_lengths}
use Rattle.objective_master.specs.Objective.{Objective, MatchEEPosiDoF, MatchEERotaDoF, MatchEEPosGoals, MatchEEQuatGoals, EachJointLimits, MinimizeVelocity, MinimizeAcceleration, MinimizeJerk, MaximizeManipulability, SelfCollision, goal_objectives, limit_objective, motion_objectives, pair_objective, picked_list, objectives}
use Rattle.objective_master.specs.Losses.{loss_of, losses_of, objectives_of}
use Rattle.objective_master.specs.Weights.{weighted_of}
use Rattle.objective_master.specs.Call.{objective_of}
use Rattle.gradient.specs.declared.slopes.Rule.TheVariants.{EachLoss, WeightedSum}
use Rattle.gradient.specs.Slopes.{step, finite_step}
use Rattle.gradient.specs.Gradient.{raised_by, poses_of, value_at, slope_of, gradient_at, finite_diff_at, slope_at, slopes_of}

-- behind the goals: limits, the four of all joints, and the pairs
unfoldable pub rest_objectives : List ℕ → List Objective
rest_objectives lens = runs limit_objective 0 (total lens) ++ (motion_objectives ++ map pair_objective (all_pairs first_arm lens))

-- the source's own list, the only one before there was a pick: six objectives for each chain's goal
unfoldable pub six_objectives : ℕ → List Objective
six_objectives c =
    MatchEEPosiDoF c 0 ∷ MatchEEPosiDoF c 1 ∷ MatchEEPosiDoF c 2 ∷ MatchEERotaDoF c 0 ∷ MatchEERotaDoF c 1 ∷ MatchEERotaDoF c 2 ∷ []

unfoldable pub source_objectives : List ℕ → List Objective
source_objectives lens = runs six_objectives 0 (length lens) ++ rest_objectives lens

-- the strict list: position, then rotation, chain after chain; the rest as before
unfoldable pub two_objectives : ℕ → List Objective
two_objectives c = MatchEEPosGoals c ∷ MatchEEQuatGoals c ∷ []

unfoldable pub strict_objectives : List ℕ → List Objective
strict_objectives lens = runs two_objectives 0 (length lens) ++ rest_objectives lens

-- all as it is, under another pick
unfoldable pub picking : Picks → Given → Given
picking p g =
    record {
      counts = g.counts;
      codes = g.codes;
      weights = g.weights;
      limits = g.limits;
      goals = g.goals;
      xopt = g.xopt;
      prev_state = g.prev_state;
      prev_state2 = g.prev_state2;
      tools = g.tools;
      picks = p;
    }

-- the objective by a list: what each of its objectives costs, weighted by its kind and added in the list's order
unfoldable pub value_by : List Objective → Given → List Float → List Float → Float
value_by os g gs x = weighted_of g.weights os (map (loss_of g (poses_of g gs x) x) os)

-- each slope so: the objectives' slopes, weighted and added
unfoldable pub slopes_by : List Objective → Given → List Float → List Float → List Float
slopes_by os g gs x = listed (λ (j : ℕ). weighted_of g.weights os (map (slope_of g gs x (raised_by step x j)) os)) (length x)

-- and by one difference of two such sums
unfoldable pub finite_diff_by : List Objective → Given → List Float → List Float → List Float
finite_diff_by os g gs x = listed (λ (j : ℕ). (neg (value_by os g gs x) ⊕ value_by os g gs (raised_by finite_step x j)) ⊘ finite_step) (length x)

-- ---- theorems
-- an objective costs the same under either pick
pub loss-any-pick : (p : Picks) (g : Given) (P : ℕ → Pose) (x : List Float) (o : Objective) → loss_of (picking p g) P x o ≡ loss_of g P x o
unfolding loss_of picking
loss-any-pick p g P x (MatchEEPosiDoF c a) = refl
loss-any-pick p g P x (MatchEERotaDoF c a) = refl
loss-any-pick p g P x (MatchEEPosGoals c) = refl
loss-any-pick p g P x (MatchEEQuatGoals c) = refl
loss-any-pick p g P x (EachJointLimits j) = refl
loss-any-pick p g P x MinimizeVelocity = refl
loss-any-pick p g P x MinimizeAcceleration = refl
loss-any-pick p g P x MinimizeJerk = refl
loss-any-pick p g P x MaximizeManipulability = refl
loss-any-pick p g P x (SelfCollision arm j k) = refl

by-pick : (p : Picks) (strict : Bool) (lens : List ℕ) → p.strict ≡ strict → objectives (picked_list p) lens ≡ runs (goal_objectives strict) 0 (length lens) ++ rest_objectives lens
unfolding objectives rest_objectives
by-pick p strict lens e = ap (λ (s : Bool). runs (goal_objectives s) 0 (length lens) ++ rest_objectives lens) e

-- not picked, the list is the source's own; picked, it is the strict one
pub source-list : (p : Picks) (lens : List ℕ) → p.strict ≡ false → objectives (picked_list p) lens ≡ source_objectives lens
unfolding goal_objectives six_objectives source_objectives
source-list p lens e = by-pick p false lens e

pub strict-list : (p : Picks) (lens : List ℕ) → p.strict ≡ true → objectives (picked_list p) lens ≡ strict_objectives lens
unfolding goal_objectives two_objectives strict_objectives
strict-list p lens e = by-pick p true lens e

-- so it is for what a call is given
pub not-picked : (g : Given) → g.picks.strict ≡ false → objectives_of g ≡ source_objectives (chain_lengths g.counts g.codes)
not-picked g e = source-list g.picks (chain_lengths g.counts g.codes) e

pub picked : (g : Given) → g.picks.strict ≡ true → objectives_of g ≡ strict_objectives (chain_lengths g.counts g.codes)
picked g e = strict-list g.picks (chain_lengths g.counts g.codes) e

-- value and slopes go by that list
module _ (g : Given) (os : List Objective) (list : objectives_of g ≡ os) (gs : List Float) where
  pub value-by : (x : List Float) → value_at g gs x ≡ value_by os g gs x
  unfolding value_at objective_of losses_of value_by
  value-by x = ap (λ (l : List Objective). weighted_of g.weights l (map (loss_of g (poses_of g gs x) x) l)) list

  slope-by : (x : List Float) (j : ℕ) → gradient_at g gs x j ≡ weighted_of g.weights os (map (slope_of g gs x (raised_by step x j)) os)
  unfolding gradient_at
  slope-by x j = ap (λ (l : List Objective). weighted_of g.weights l (map (slope_of g gs x (raised_by step x j)) l)) list

  pub slopes-by : (x : List Float) → slopes_of EachLoss g gs x ≡ slopes_by os g gs x
  unfolding slopes_of slope_at slopes_by
  slopes-by x = ap (λ (f : ℕ → Float). listed f (length x)) (fun_ext (slope-by x))

  pub finite-diff-by : (x : List Float) → slopes_of WeightedSum g gs x ≡ finite_diff_by os g gs x
  unfolding slopes_of slope_at finite_diff_at finite_diff_by
  finite-diff-by x =
      ap (λ (v : List Float → Float). listed (λ (j : ℕ). (neg (v x) ⊕ v (raised_by finite_step x j)) ⊘ finite_step) (length x)) (fun_ext value-by)
