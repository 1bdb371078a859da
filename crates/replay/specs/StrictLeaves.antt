-- What a leaf that goals without tolerance stand on answers, by its call number, as the others.
use Rattle.std.specs.Prelude.{Bool, cond, List, [], ◌∷◌, ℕ, eqb, Float}
use Rattle.utils_rust.specs.Acos.{acos_of}
use Rattle.utils_rust.specs.Transformations.{from_quaternion, quaternion_log, quaternion_disp, angle_between_quaternion}
use Rattle.spacetime.specs.Floats.{flat_vec, flat_quat}
use Rattle.objective_master.specs.Strict.{pos_goals_loss, quat_goals_loss}
use Rattle.lent_bytes.specs.Bytes.{float_at}
use Rattle.lent_bytes.specs.Lent.{bytes_of}
use Rattle.stored_answers.specs.Stored.{number_at, list_of}
use Rattle.stored_answers.specs.Agree.{answer_agrees}
use Rattle.replay_calls.specs.Table.{asked_list, answered_list}
use Rattle.replay.specs.Leaves.{vec_at, quat_at}

-- 44 to 50; the losses are of a goal and an end
unfoldable pub strict_leaf_of : ℕ → List ℕ → List Float
strict_leaf_of c b =
    cond (eqb c 44) (acos_of (float_at b 0) ∷ [])
    (cond (eqb c 45) (flat_quat (from_quaternion (quat_at b 0)))
    (cond (eqb c 46) (flat_vec (quaternion_log (quat_at b 0)))
    (cond (eqb c 47) (flat_vec (quaternion_disp (quat_at b 0) (quat_at b 4)))
    (cond (eqb c 48) (angle_between_quaternion (quat_at b 0) (quat_at b 4) ∷ [])
    (cond (eqb c 49) (pos_goals_loss (vec_at b 0) (vec_at b 3) ∷ [])
    (quat_goals_loss (quat_at b 0) (quat_at b 4) ∷ []))))))

unfoldable pub strict_leaf_agrees : List ℕ → ℕ → Bool
strict_leaf_agrees s at = answer_agrees s at 0 answered_list (bytes_of (strict_leaf_of (number_at s at) (list_of s at asked_list)) ∷ [])
