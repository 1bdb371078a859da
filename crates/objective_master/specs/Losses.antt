-- What each objective costs: of the poses P after each link, and the joints x that were walked.
use Rattle.std.specs.Prelude.{◌≡◌, Bool, cond, eqb, length, get_or}
use Rattle.std.proofs.Math.Path.{refl, sym, ap}
use Rattle.std.proofs.Common.{◌∙◌, arith}
use Rattle.std.proofs.Math.Bool.{true, false}
use mathlib.Core.List.{List, [], ◌∷◌, ◌++◌, map}
use Prim.Native.Nat.{ℕ, zero, suc, ◌+◌, ◌-◌, ◌*◌}
use Rattle.std.specs.Float.Ieee.{Float}
use Rattle.std.specs.Float.{nan}
use Rattle.std.proofs.lemmas.List.{length-map}
use Rattle.standins.specs.Num.{◌⊕◌, nought, abs_of}
use Rattle.geometry.specs.declared.vector.Vec3.{Vec3}
use Rattle.geometry.specs.declared.quaternion.Quat.{Quat}
use Rattle.geometry.specs.declared.pose.Pose.{Pose}
use Rattle.geometry.specs.Vector.{sub_of}
use Rattle.geometry.specs.Quaternion.{inverse_of, product_of, rotate_of, scaled_axis_of}
use Rattle.lists.specs.Runs.{runs, runs-ext}
use Rattle.lists.specs.Listed.{listed}
use Rattle.sheet.specs.Chain.{total, chain_start, chain-start-next, chain-start-total, joint_of, joint-mono, joint-last, joints, chain_length}
use Rattle.task.specs.Task.{task_length, Given}
use Rattle.spacetime.specs.Floats.{vec_at, quat_at}
use Rattle.spacetime.specs.Frames.{end_of, Chains}
use Rattle.manipulability.specs.View.{View}
use Rattle.manipulability.specs.Jacobian.{manipulability_of}
use Rattle.groove.specs.Loss.{match_ee_posi_dof, match_ee_rota_dof, each_joint_limits, minimize_velocity, minimize_acceleration, minimize_jerk, maximize_manipulability, velocity_of, acceleration_of, jerk_of, any_nan}
use Rattle.self_collision.specs.Pairs.{pair, first_arm, chain_lengths, pair_loss, pair_losses, Paired, lengths-count}
use Rattle.objective_master.specs.Objective.{Objective, MatchEEPosiDoF, MatchEERotaDoF, MatchEEPosGoals, MatchEEQuatGoals, EachJointLimits, MinimizeVelocity, MinimizeAcceleration, MinimizeJerk, MaximizeManipulability, SelfCollision, goal_width, goal_objectives, motion_objectives, pair_objective, picked_list, objectives, sections}
use Rattle.objective_master.specs.Strict.{pos_goals_loss, quat_goals_loss}

-- component a of a vector: x, y, z for 0, 1, 2
unfoldable pub component_of : Vec3 → ℕ → Float
component_of v a = cond (eqb a 0) v.x (cond (eqb a 1) v.y v.z)

-- chain c's goal, 13 floats: position, quaternion, tolerances
unfoldable pub goal_position : List Float → ℕ → Vec3
goal_position goals c = vec_at goals (13 * c)

unfoldable pub goal_quat : List Float → ℕ → Quat
goal_quat goals c = quat_at goals (13 * c + 3)

unfoldable pub tolerance_at : List Float → ℕ → ℕ → Float
tolerance_at goals c a = get_or goals (13 * c + 7 + a) nan

-- a chain's end position as its goal sees it
unfoldable pub off_goal : List Float → ℕ → Pose → Vec3
off_goal goals c end = rotate_of (inverse_of (goal_quat goals c)) (sub_of end.position (goal_position goals c))

-- the turn from a chain's goal to its end, as an axis whose length is the angle
unfoldable pub turn_from_goal : List Float → ℕ → Pose → Vec3
turn_from_goal goals c end = scaled_axis_of (product_of (inverse_of (goal_quat goals c)) end.rotation)

-- what being off the goal along axis a costs, and turned about it
unfoldable pub off_loss : List Float → ℕ → Pose → ℕ → Float
off_loss goals c end a = match_ee_posi_dof (component_of (off_goal goals c end) a) (tolerance_at goals c a)

unfoldable pub turn_loss : List Float → ℕ → Pose → ℕ → Float
turn_loss goals c end a = match_ee_rota_dof (nought ⊕ abs_of (component_of (turn_from_goal goals c end) a)) (tolerance_at goals c (a + 3))

-- what joint j's limits cost
unfoldable pub limit_loss : List Float → List Float → ℕ → Float
limit_loss limits x j = each_joint_limits (get_or x j nan) (get_or limits (2 * j) nan) (get_or limits (2 * j + 1) nan)

-- what an objective costs
unfoldable pub loss_of : Given → (ℕ → Pose) → List Float → Objective → Float
loss_of g P x (MatchEEPosiDoF c a) = off_loss g.goals c (end_of g.counts g.tools P c) a
loss_of g P x (MatchEERotaDoF c a) = turn_loss g.goals c (end_of g.counts g.tools P c) a
loss_of g P x (MatchEEPosGoals c) = pos_goals_loss (goal_position g.goals c) (end_of g.counts g.tools P c).position
loss_of g P x (MatchEEQuatGoals c) = quat_goals_loss (goal_quat g.goals c) (end_of g.counts g.tools P c).rotation
loss_of g P x (EachJointLimits j) = limit_loss g.limits x j
loss_of g P x MinimizeVelocity = minimize_velocity (velocity_of x g.xopt)
loss_of g P x MinimizeAcceleration = minimize_acceleration (acceleration_of x g.xopt g.prev_state)
loss_of g P x MinimizeJerk = minimize_jerk (jerk_of x g.xopt g.prev_state g.prev_state2)
loss_of g P x MaximizeManipulability = maximize_manipulability (manipulability_of P g.counts g.codes)
loss_of g P x (SelfCollision arm j k) = pair_loss g.counts P (any_nan x) (pair arm j k)

-- the objectives of a sheet, of the list that was picked
abbrev pub objectives_of : Given → List Objective
objectives_of g = objectives (picked_list g.picks) (chain_lengths g.counts g.codes)

-- what they cost, in their order
unfoldable pub losses_of : Given → (ℕ → Pose) → List Float → List Float
losses_of g P x = map (loss_of g P x) (objectives_of g)

-- ---- by sections, as code writes them

-- those of a chain's goal
unfoldable pub off_losses : List Float → ℕ → Pose → List Float
off_losses goals c end = off_loss goals c end 0 ∷ off_loss goals c end 1 ∷ off_loss goals c end 2 ∷ []

unfoldable pub turn_losses : List Float → ℕ → Pose → List Float
turn_losses goals c end = turn_loss goals c end 0 ∷ turn_loss goals c end 1 ∷ turn_loss goals c end 2 ∷ []

unfoldable pub strict_losses : List Float → ℕ → Pose → List Float
strict_losses goals c end = pos_goals_loss (goal_position goals c) end.position ∷ quat_goals_loss (goal_quat goals c) end.rotation ∷ []

unfoldable pub pose_losses : Bool → List Float → ℕ → Pose → List Float
pose_losses true goals c end = strict_losses goals c end
pose_losses false goals c end = off_losses goals c end ++ turn_losses goals c end

unfoldable pub goal_losses : Bool → List ℕ → List Float → List Float → (ℕ → Pose) → ℕ → List Float
goal_losses strict ns goals tools P c = pose_losses strict goals c (end_of ns tools P c)

-- the one of joint j's limits
unfoldable pub limit_losses : List Float → List Float → ℕ → List Float
limit_losses limits x j = limit_loss limits x j ∷ []

-- the three of the joints' changes
unfoldable pub change_losses : List Float → List Float → List Float → List Float → List Float
change_losses x xopt prev prev2 = minimize_velocity (velocity_of x xopt) ∷ minimize_acceleration (acceleration_of x xopt prev) ∷ minimize_jerk (jerk_of x xopt prev prev2) ∷ []

-- the four of all joints: those, and the manipulability
unfoldable pub motion_losses : (ℕ → Pose) → List ℕ → List ℕ → List Float → List Float → List Float → List Float → List Float
motion_losses P ns cs x xopt prev prev2 = change_losses x xopt prev prev2 ++ (maximize_manipulability (manipulability_of P ns cs) ∷ [])

-- what is lent for it: an accepted sheet, the list with its limits, goals, history and tools, joints, and a view of the poses
pub record Lent (ns cs : List ℕ) (task x base tail : List Float) (from to : ℕ) : Type 0 where
  pub paired : Paired ns cs
  pub chains : Chains ns
  pub view : View base tail from to (length cs)
  pub values : length x ≡ joints cs
  pub whole : length task ≡ task_length

-- ---- laws
pub losses-many : (g : Given) (P : ℕ → Pose) (x : List Float) → length (losses_of g P x) ≡ length (objectives_of g)
unfolding losses_of
losses-many g P x = length-map (objectives_of g) (loss_of g P x)

pub goal-length : (strict : Bool) (ns : List ℕ) (goals tools : List Float) (P : ℕ → Pose) (c : ℕ) → length (goal_losses strict ns goals tools P c) ≡ goal_width strict
unfolding goal_width goal_losses pose_losses strict_losses off_losses turn_losses
goal-length true ns goals tools P c = refl
goal-length false ns goals tools P c = refl

pub limit-length : (limits x : List Float) (j : ℕ) → length (limit_losses limits x j) ≡ 1
unfolding limit_losses
limit-length limits x j = refl

pub change-length : (x xopt prev prev2 : List Float) → length (change_losses x xopt prev prev2) ≡ 3
unfolding change_losses
change-length x xopt prev prev2 = refl

pub motion-length : (P : ℕ → Pose) (ns cs : List ℕ) (x xopt prev prev2 : List Float) → length (motion_losses P ns cs x xopt prev prev2) ≡ 4
unfolding motion_losses change_losses
motion-length P ns cs x xopt prev prev2 = refl

-- the joints of all chains
total-append : (xs ys : List ℕ) → total (xs ++ ys) ≡ total xs + total ys
unfolding total
total-append [] ys = omega arith
total-append (x ∷ xs) ys = omega (arith, total-append xs ys)

lengths-to : (ns cs : List ℕ) (n : ℕ) → total (listed (chain_length ns cs) n) ≡ joint_of cs (chain_start ns n)
unfolding listed runs total chain_length chain_start joint_of
lengths-to ns cs zero = refl
lengths-to ns cs (suc n) =
    let z : 0 + n ≡ n = omega arith in
    let f : chain_length ns cs (0 + n) ≡ joint_of cs (chain_start ns (n + 1)) - joint_of cs (chain_start ns n) = rw z in
    let e : chain_start ns (n + 1) ≡ chain_start ns (suc n) = chain-start-next ns n in
    let m = joint-mono cs (chain_start ns n) (chain_start ns (suc n)) (omega arith) in
    total-append (listed (chain_length ns cs) n) (chain_length ns cs (0 + n) ∷ []) ∙ omega (arith, lengths-to ns cs n, ap (joint_of cs) e)

pub lengths-total : (ns cs : List ℕ) → total ns ≡ length cs → total (chain_lengths ns cs) ≡ joints cs
unfolding chain_lengths
lengths-total ns cs w = lengths-to ns cs (length ns) ∙ ap (joint_of cs) (chain-start-total ns ∙ w) ∙ joint-last cs

module _ (g : Given) (P : ℕ → Pose) (x : List Float) where
  abbrev ns : List ℕ
  ns = g.counts

  abbrev lens : List ℕ
  lens = chain_lengths g.counts g.codes

  -- what the objectives of a chain's goal cost
  pub goal-losses : (strict : Bool) (c : ℕ) → map (loss_of g P x) (goal_objectives strict c) ≡ goal_losses strict g.counts g.goals g.tools P c
  unfolding loss_of goal_objectives goal_losses pose_losses strict_losses off_losses turn_losses
  goal-losses true c = refl
  goal-losses false c = refl

  -- the list of losses by sections
  pub losses-sections : total g.counts ≡ length g.codes → length x ≡ joints g.codes
      → losses_of g P x ≡ runs (goal_losses g.picks.strict g.counts g.goals g.tools P) 0 (length g.counts)
      ++ (runs (limit_losses g.limits x) 0 (length x)
      ++ (motion_losses P g.counts g.codes x g.xopt g.prev_state g.prev_state2
      ++ pair_losses g.counts P first_arm (chain_lengths g.counts g.codes) (any_nan x)))
  unfolding losses_of loss_of motion_objectives pair_objective limit_losses change_losses motion_losses pair_losses
  losses-sections w v =
      let goals : ℕ → List Float = goal_losses g.picks.strict ns g.goals g.tools P in
      let rest : List Float = motion_losses P ns g.codes x g.xopt g.prev_state g.prev_state2 ++ pair_losses ns P first_arm lens (any_nan x) in
      sections (loss_of g P x) (picked_list g.picks) lens
      ∙ ap (λ (l : List Float). l ++ (runs (limit_losses g.limits x) 0 (total lens) ++ rest)) (runs-ext (λ c. map (loss_of g P x) (goal_objectives g.picks.strict c)) goals 0 (length lens) (λ i h. goal-losses g.picks.strict (0 + i)))
      ∙ ap (λ (n : ℕ). runs goals 0 n ++ (runs (limit_losses g.limits x) 0 (total lens) ++ rest)) (lengths-count ns g.codes)
      ∙ ap (λ (n : ℕ). runs goals 0 (length ns) ++ (runs (limit_losses g.limits x) 0 n ++ rest)) (lengths-total ns g.codes w ∙ sym v)
