-- The weighted objective.
use Rattle.std.specs.Prelude.{List, ℕ, ◌≤◌, ◌<◌, Float, length}
use Rattle.geometry.specs.declared.pose.Pose.{Pose}
use Rattle.task.specs.Task.{Given}
use Rattle.sheet.specs.Chain.{chain_length}
use Rattle.objective_master.specs.Losses.{losses_of, objectives_of}
use Rattle.objective_master.specs.Weights.{weighted_of}

-- of the poses P and joints x: the weighted sum of what the objectives cost
unfoldable pub objective_of : Given → (ℕ → Pose) → List Float → Float
objective_of g P x = weighted_of g.weights (objectives_of g) (losses_of g P x)

-- no chain has fewer than two joints
abbrev pub TwoJoints : List ℕ → List ℕ → Type 0
TwoJoints ns cs = (c : ℕ) → c < length ns → 2 ≤ chain_length ns cs c
