-- The calls that ask the arms alone, by the state.
use Rattle.std.specs.Prelude.{List, ℕ, Float}
use Rattle.geometry.specs.declared.pose.Pose.{Pose}
use Rattle.state_calls.specs.declared.state.State.{State}
use Rattle.state_calls.specs.StoredSheet.{frames_stored, pose_stored, block_stored, stored_pose, manipulability_stored}

-- the pose after each link in the walk of block x
abbrev pub poses_of : State → List Float → ℕ → Pose
poses_of s x = stored_pose s.arms.sizes s.arms.codes s.arms.floats x

abbrev pub frames_number_of : State → List Float → ℕ → ℕ → ℕ
frames_number_of s x p r = frames_stored s.arms.sizes s.arms.codes x p r

abbrev pub pose_number_of : State → List Float → ℕ → ℕ
pose_number_of s x n = pose_stored s.arms.sizes s.arms.codes x n

-- manipulability's number and its value
abbrev pub manipulability_number_of : State → List Float → ℕ
manipulability_number_of s x = block_stored s.arms.sizes s.arms.codes x

abbrev pub manipulability_value_of : State → List Float → Float
manipulability_value_of s x = manipulability_stored s.arms.sizes s.arms.codes s.arms.floats x
