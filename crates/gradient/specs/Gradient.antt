-- The gradients of objective_master.rs, each made from copies of the joints that are walked afresh.
use Rattle.std.specs.Prelude.{◌≡◌, List, map, ℕ, Float, length, get_or, set}
use Rattle.std.specs.Float.{nan}
use Rattle.std.specs.Float.Ieee.{neg}
use Rattle.standins.specs.Num.{◌⊕◌, ◌⊘◌}
use Rattle.geometry.specs.declared.pose.Pose.{Pose}
use Rattle.lists.specs.Listed.{listed, length-listed}
use Rattle.task.specs.Task.{Given}
use Rattle.spacetime.specs.Walk.{pose_of}
use Rattle.objective_master.specs.Objective.{Objective}
use Rattle.objective_master.specs.Losses.{loss_of, losses_of, objectives_of}
use Rattle.objective_master.specs.Weights.{weighted_of}
use Rattle.objective_master.specs.Call.{objective_of}
use Rattle.gradient.specs.declared.slopes.Rule.{Rule}
use Rattle.gradient.specs.declared.slopes.Rule.TheVariants.{EachLoss, WeightedSum}
use Rattle.gradient.specs.Slopes.{step, finite_step}

-- block x with h added to entry j, rounded once
unfoldable pub raised_by : Float → List Float → ℕ → List Float
raised_by h x j = set x j (get_or x j nan ⊕ h)

-- the poses of block x, walked afresh; gs are the floats of the links
abbrev pub poses_of : Given → List Float → List Float → ℕ → Pose
poses_of g gs x = pose_of g.counts g.codes gs x

-- the losses at block x
unfoldable pub losses_at : Given → List Float → List Float → List Float
losses_at g gs x = losses_of g (poses_of g gs x) x

-- the objective's value at block x
unfoldable pub value_at : Given → List Float → List Float → Float
value_at g gs x = objective_of g (poses_of g gs x) x

-- an objective's slope from block x to block y, which is raised by `step`
unfoldable pub slope_of : Given → List Float → List Float → List Float → Objective → Float
slope_of g gs x y o = (neg (loss_of g (poses_of g gs x) x o) ⊕ loss_of g (poses_of g gs y) y o) ⊘ step

-- entry j of `gradient`: the slopes are weighted first, then added
unfoldable pub gradient_at : Given → List Float → List Float → ℕ → Float
gradient_at g gs x j = weighted_of g.weights (objectives_of g) (map (slope_of g gs x (raised_by step x j)) (objectives_of g))

-- entry j of `gradient_finite_diff`: one difference of weighted sums
unfoldable pub finite_diff_at : Given → List Float → List Float → ℕ → Float
finite_diff_at g gs x j = (neg (value_at g gs x) ⊕ value_at g gs (raised_by finite_step x j)) ⊘ finite_step

-- either, by the rule
unfoldable pub slope_at : Rule → Given → List Float → List Float → ℕ → Float
slope_at EachLoss g gs x j = gradient_at g gs x j
slope_at WeightedSum g gs x j = finite_diff_at g gs x j

-- along all joints
unfoldable pub slopes_of : Rule → Given → List Float → List Float → List Float
slopes_of rule g gs x = listed (slope_at rule g gs x) (length x)

abbrev pub gradient_of : Given → List Float → List Float → List Float
gradient_of g gs x = slopes_of EachLoss g gs x

abbrev pub finite_diff_of : Given → List Float → List Float → List Float
finite_diff_of g gs x = slopes_of WeightedSum g gs x

-- ---- theorem: as many slopes as joints
pub slopes-length : (rule : Rule) (g : Given) (gs x : List Float) → length (slopes_of rule g gs x) ≡ length x
unfolding slopes_of
slopes-length rule g gs x = length-listed (slope_at rule g gs x) (length x)
