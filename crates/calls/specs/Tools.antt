-- Without a tool: the objectives look at what they looked at before there were tools, and a chain's end is its last frame.
use Rattle.std.specs.Prelude.{◌≡◌, false, length, get_or, take, replicate}
use Rattle.std.proofs.Math.Path.{refl, ap, ap₂, fun_ext}
use Rattle.std.proofs.Common.{sym, ◌∙◌}
use mathlib.Core.List.{List, [], ◌∷◌, map}
use Prim.Native.Nat.{ℕ, zero, suc, ◌+◌, ◌*◌}
use Rattle.std.specs.Float.Ieee.{Float, neg, eq, of_bits}
use Rattle.std.specs.Float.{nan}
use Rattle.standins.specs.Num.{◌⊕◌, ◌⊘◌, nought, one}
use Rattle.geometry.specs.declared.pose.Pose.{Pose}
use Rattle.lists.specs.Runs.{runs, runs-ext}
use Rattle.lists.specs.Listed.{listed}
use Rattle.sheet.specs.Tool.{has_tool}
use Rattle.task.specs.Task.{Given}
use Rattle.spacetime.specs.Floats.{flat}
use Rattle.spacetime.specs.Tool.{no-tip}
use Rattle.spacetime.specs.Frames.{last_of, end_of, chain_end, ends_of}
use Rattle.objective_master.specs.Objective.{Objective, MatchEEPosiDoF, MatchEERotaDoF, MatchEEPosGoals, MatchEEQuatGoals, EachJointLimits, MinimizeVelocity, MinimizeAcceleration, MinimizeJerk, MaximizeManipulability, SelfCollision}
use Rattle.objective_master.specs.Strict.{pos_goals_loss, quat_goals_loss}
use Rattle.objective_master.specs.Losses.{goal_position, goal_quat, off_loss, turn_loss, loss_of, losses_of, objectives_of}
use Rattle.objective_master.specs.Weights.{weighted_of}
use Rattle.objective_master.specs.Call.{objective_of}
use Rattle.gradient.specs.declared.slopes.Rule.{Rule}
use Rattle.gradient.specs.declared.slopes.Rule.TheVariants.{EachLoss, WeightedSum}
use Rattle.gradient.specs.Slopes.{step, finite_step}
use Rattle.gradient.specs.Gradient.{raised_by, poses_of, value_at, slope_of, gradient_at, finite_diff_at, slope_at, slopes_of}

-- no chain has one
abbrev pub NoTool : List Float → Type 0
NoTool tools = (c : ℕ) → has_tool tools c ≡ false

-- all as it is, with an empty list of tools
unfoldable pub bare : Given → Given
bare g =
    record {
      counts = g.counts;
      codes = g.codes;
      weights = g.weights;
      limits = g.limits;
      goals = g.goals;
      xopt = g.xopt;
      prev_state = g.prev_state;
      prev_state2 = g.prev_state2;
      tools = [];
      picks = g.picks;
    }

-- end poses as they are then: the last frames
unfoldable pub lasts_of : List ℕ → (ℕ → Pose) → List Float
lasts_of ns P = runs (λ (c : ℕ). flat (last_of ns P c)) 0 (length ns)

-- what an objective cost before there were tools: a chain's goal looks at the last frame
unfoldable pub loss_at_last : Given → (ℕ → Pose) → List Float → Objective → Float
loss_at_last g P x (MatchEEPosiDoF c a) = off_loss g.goals c (last_of g.counts P c) a
loss_at_last g P x (MatchEERotaDoF c a) = turn_loss g.goals c (last_of g.counts P c) a
loss_at_last g P x (MatchEEPosGoals c) = pos_goals_loss (goal_position g.goals c) (last_of g.counts P c).position
loss_at_last g P x (MatchEEQuatGoals c) = quat_goals_loss (goal_quat g.goals c) (last_of g.counts P c).rotation
loss_at_last g P x (EachJointLimits j) = loss_of g P x (EachJointLimits j)
loss_at_last g P x MinimizeVelocity = loss_of g P x MinimizeVelocity
loss_at_last g P x MinimizeAcceleration = loss_of g P x MinimizeAcceleration
loss_at_last g P x MinimizeJerk = loss_of g P x MinimizeJerk
loss_at_last g P x MaximizeManipulability = loss_of g P x MaximizeManipulability
loss_at_last g P x (SelfCollision arm j k) = loss_of g P x (SelfCollision arm j k)

-- ---- laws: lists without a tool
-- the empty one, zeros, and a part of one
pub empty-none : NoTool []
unfolding has_tool eq
empty-none c = refl

pub zeros-none : (n : ℕ) → NoTool (replicate n nought)
unfolding has_tool eq of_bits
zeros-none n c = go n (8 * c)
  where
    go : (n i : ℕ) → eq (get_or (replicate n nought) i nan) one ≡ false
    go zero i = refl
    go (suc n) zero = refl
    go (suc n) (suc i) = go n i

pub take_none : (n : ℕ) (tools : List Float) → NoTool tools → NoTool (take n tools)
unfolding has_tool eq of_bits
take_none n tools none c = go n (8 * c) tools (none c)
  where
    go : (n i : ℕ) (xs : List Float) → eq (get_or xs i nan) one ≡ false → eq (get_or (take n xs) i nan) one ≡ false
    go zero i xs e = refl
    go (suc n) i [] e = refl
    go (suc n) zero (x ∷ xs) e = e
    go (suc n) (suc i) (x ∷ xs) e = go n i xs e

-- ---- laws: what is answered

-- a chain's end is its last frame, as it is
pub end-last : (ns : List ℕ) (tools : List Float) (P : ℕ → Pose) (c : ℕ) → has_tool tools c ≡ false → end_of ns tools P c ≡ last_of ns P c
end-last ns tools P c e = no-tip tools c (last_of ns P c) e

pub ends_last : (ns : List ℕ) (tools : List Float) (P : ℕ → Pose) → NoTool tools → ends_of ns tools P ≡ lasts_of ns P
unfolding ends_of chain_end lasts_of
ends_last ns tools P none = runs-ext _ _ 0 (length ns) (λ c l. ap flat (end-last ns tools P (0 + c) (none (0 + c))))

-- the losses of a chain's goal are those at its last frame, whatever other chains have
module _ (g : Given) (P : ℕ → Pose) (x : List Float) (c : ℕ) (none : has_tool g.tools c ≡ false) where
  pub off-last : (a : ℕ) → loss_of g P x (MatchEEPosiDoF c a) ≡ off_loss g.goals c (last_of g.counts P c) a
  unfolding loss_of
  off-last a = ap (λ (p : Pose). off_loss g.goals c p a) (end-last g.counts g.tools P c none)

  pub turn_last : (a : ℕ) → loss_of g P x (MatchEERotaDoF c a) ≡ turn_loss g.goals c (last_of g.counts P c) a
  unfolding loss_of
  turn_last a = ap (λ (p : Pose). turn_loss g.goals c p a) (end-last g.counts g.tools P c none)

  pub pos-last : loss_of g P x (MatchEEPosGoals c) ≡ pos_goals_loss (goal_position g.goals c) (last_of g.counts P c).position
  unfolding loss_of
  pos-last = ap (λ (p : Pose). pos_goals_loss (goal_position g.goals c) p.position) (end-last g.counts g.tools P c none)

  pub quat-last : loss_of g P x (MatchEEQuatGoals c) ≡ quat_goals_loss (goal_quat g.goals c) (last_of g.counts P c).rotation
  unfolding loss_of
  quat-last = ap (λ (p : Pose). quat_goals_loss (goal_quat g.goals c) p.rotation) (end-last g.counts g.tools P c none)

module _ (g : Given) (none : NoTool g.tools) where
  -- with no tool at all the losses are those of the last frames, in their order
  loss-last : (P : ℕ → Pose) (x : List Float) (o : Objective) → loss_of g P x o ≡ loss_at_last g P x o
  unfolding loss_at_last
  loss-last P x (MatchEEPosiDoF c a) = off-last g P x c (none c) a
  loss-last P x (MatchEERotaDoF c a) = turn_last g P x c (none c) a
  loss-last P x (MatchEEPosGoals c) = pos-last g P x c (none c)
  loss-last P x (MatchEEQuatGoals c) = quat-last g P x c (none c)
  loss-last P x (EachJointLimits j) = refl
  loss-last P x MinimizeVelocity = refl
  loss-last P x MinimizeAcceleration = refl
  loss-last P x MinimizeJerk = refl
  loss-last P x MaximizeManipulability = refl
  loss-last P x (SelfCollision arm j k) = refl

  pub losses-last : (P : ℕ → Pose) (x : List Float) → losses_of g P x ≡ map (loss_at_last g P x) (objectives_of g)
  unfolding losses_of
  losses-last P x = ap (λ (f : Objective → Float). map f (objectives_of g)) (fun_ext (loss-last P x))

  same_end : (P : ℕ → Pose) (c : ℕ) → end_of g.counts g.tools P c ≡ end_of g.counts [] P c
  same_end P c = end-last g.counts g.tools P c (none c) ∙ sym (end-last g.counts [] P c (empty-none c))

  loss-bare : (P : ℕ → Pose) (x : List Float) (o : Objective) → loss_of g P x o ≡ loss_of (bare g) P x o
  unfolding loss_of bare
  loss-bare P x (MatchEEPosiDoF c a) = ap (λ (p : Pose). off_loss g.goals c p a) (same_end P c)
  loss-bare P x (MatchEERotaDoF c a) = ap (λ (p : Pose). turn_loss g.goals c p a) (same_end P c)
  loss-bare P x (MatchEEPosGoals c) = ap (λ (p : Pose). pos_goals_loss (goal_position g.goals c) p.position) (same_end P c)
  loss-bare P x (MatchEEQuatGoals c) = ap (λ (p : Pose). quat_goals_loss (goal_quat g.goals c) p.rotation) (same_end P c)
  loss-bare P x (EachJointLimits j) = refl
  loss-bare P x MinimizeVelocity = refl
  loss-bare P x MinimizeAcceleration = refl
  loss-bare P x MinimizeJerk = refl
  loss-bare P x MaximizeManipulability = refl
  loss-bare P x (SelfCollision arm j k) = refl

  -- and so are value and slopes
  pub value-bare : (gs x : List Float) → value_at g gs x ≡ value_at (bare g) gs x
  unfolding value_at objective_of losses_of bare
  value-bare gs x =
      ap (λ (f : Objective → Float). weighted_of g.weights (objectives_of g) (map f (objectives_of g))) (fun_ext (loss-bare (poses_of g gs x) x))

  slope-bare : (rule : Rule) (gs x : List Float) (j : ℕ) → slope_at rule g gs x j ≡ slope_at rule (bare g) gs x j
  unfolding slope_at gradient_at finite_diff_at slope_of bare
  slope-bare EachLoss gs x j =
      let y : List Float = raised_by step x j in
      ap (λ (f : Objective → Float). weighted_of g.weights (objectives_of g) (map f (objectives_of g)))
      (fun_ext (λ o. ap₂ (λ (a b : Float). (neg a ⊕ b) ⊘ step) (loss-bare (poses_of g gs x) x o) (loss-bare (poses_of g gs y) y o)))
  slope-bare WeightedSum gs x j = ap₂ (λ (a b : Float). (neg a ⊕ b) ⊘ finite_step) (value-bare gs x) (value-bare gs (raised_by finite_step x j))

  pub slopes-bare : (rule : Rule) (gs x : List Float) → slopes_of rule g gs x ≡ slopes_of rule (bare g) gs x
  unfolding slopes_of
  slopes-bare rule gs x = ap (λ (f : ℕ → Float). listed f (length x)) (fun_ext (slope-bare rule gs x))
