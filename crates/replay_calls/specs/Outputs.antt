-- When a record of a byte call with outputs agrees with what the call answers, by the call's number.
use Rattle.std.specs.Prelude.{Bool, cond, List, ℕ, eqb}
use Rattle.replay_calls.specs.Arms.{frames_agree, pose_agrees, manipulability_agrees, reset_agrees, update_agrees}
use Rattle.replay_calls.specs.Objectives.{objective_agrees, gradient_agrees, finite_diff_agrees}

-- 2 to 5, those with one output
unfoldable pub one_agrees : ℕ → List ℕ → ℕ → Bool
one_agrees c s at =
    cond (eqb c 2) (pose_agrees s at)
    (cond (eqb c 3) (manipulability_agrees s at)
    (cond (eqb c 4) (update_agrees s at)
    (objective_agrees s at)))

-- 6 and 7, those with two; 8 and 9, those with three
unfoldable pub two_agree : ℕ → List ℕ → ℕ → Bool
two_agree c s at = cond (eqb c 6) (frames_agree s at) (reset_agrees s at)

unfoldable pub three_agree : ℕ → List ℕ → ℕ → Bool
three_agree c s at = cond (eqb c 8) (gradient_agrees s at) (finite_diff_agrees s at)
