-- What a leaf answers, by its call number, on the floats that a record asks it.
use Rattle.std.specs.Prelude.{◌≡◌, Bool, cond, List, [], ◌∷◌, ℕ, ◌+◌, ◌≤◌, ◌<◌, eqb, ltb, Float}
use Rattle.std.proofs.Common.{arith}
use borrow.Author.Tests.{lt-ltb, le-ltb}
use Rattle.lists.specs.Listed.{listed}
use Rattle.root.specs.Root.{root_of}
use Rattle.standins.specs.Num.{abs_of}
use Rattle.standins.specs.Cut.{cut_of}
use Rattle.standins.specs.Power.{power20_of, power30_of, b20, b30}
use Rattle.standins.specs.Series.{sine_of, cosine_of, exp_of, atan2_of}
use Rattle.geometry.specs.declared.vector.Vec3.{Vec3}
use Rattle.geometry.specs.declared.quaternion.Quat.{Quat}
use Rattle.geometry.specs.Vector.{cross_of, norm_of}
use Rattle.geometry.specs.Quaternion.{product_of, inverse_of, rotate_of, scaled_axis_of, quat_x_of, quat_y_of, quat_z_of}
use Rattle.geometry.specs.Segment.{distance_of}
use Rattle.geometry.specs.Matrix.{determinant_of, gram_of}
use Rattle.groove.specs.Loss.{groove_loss, swamp_groove_loss, swamp_loss, match_ee_posi_dof, match_ee_rota_dof, each_joint_limits}
use Rattle.lent_bytes.specs.Bytes.{float_at}
use Rattle.lent_bytes.specs.Lent.{floats_in, bytes_of}
use Rattle.stored_answers.specs.Stored.{number_at, list_of}
use Rattle.stored_answers.specs.Agree.{answer_agrees}
use Rattle.spacetime.specs.Floats.{flat_vec, flat_quat}
use Rattle.replay_calls.specs.Table.{asked_list, answered_list}

-- three and four floats of a byte list, from float i on
abbrev pub vec_at : List ℕ → ℕ → Vec3
vec_at b i = record { x = float_at b i; y = float_at b (i + 1); z = float_at b (i + 2) }

abbrev pub quat_at : List ℕ → ℕ → Quat
quat_at b i = record { w = float_at b i; i = float_at b (i + 1); j = float_at b (i + 2); k = float_at b (i + 3) }

-- 11 to 21
unfoldable pub standin_of : ℕ → List ℕ → Float
standin_of c b =
    cond (eqb c 11) (root_of (float_at b 0))
    (cond (eqb c 12) (sine_of (float_at b 0))
    (cond (eqb c 13) (cosine_of (float_at b 0))
    (cond (eqb c 14) (exp_of (float_at b 0))
    (cond (eqb c 15) (atan2_of (float_at b 0) (float_at b 1))
    (cond (eqb c 16) (power20_of (float_at b 0))
    (cond (eqb c 17) (power30_of (float_at b 0))
    (cond (eqb c 18) b20
    (cond (eqb c 19) b30
    (cond (eqb c 20) (cut_of (float_at b 0))
    (abs_of (float_at b 0)))))))))))

-- losses of as many floats as they take
abbrev pub groove_loss_at : List ℕ → Float
groove_loss_at b = groove_loss (float_at b 0) (float_at b 1) (float_at b 2) (float_at b 3)

abbrev pub swamp_groove_loss_at : List ℕ → Float
swamp_groove_loss_at b = swamp_groove_loss (float_at b 0) (float_at b 1) (float_at b 2) (float_at b 3) (float_at b 4) (float_at b 5) (float_at b 6) (float_at b 7)

abbrev pub swamp_loss_at : List ℕ → ℕ → Float
swamp_loss_at b p = swamp_loss (float_at b 0) (float_at b 1) (float_at b 2) (float_at b 3) (float_at b 4) p

-- 22 to 28; the swamp loss at the powers 20 and 30
unfoldable pub loss_of : ℕ → List ℕ → Float
loss_of c b =
    cond (eqb c 22) (groove_loss_at b)
    (cond (eqb c 23) (swamp_groove_loss_at b)
    (cond (eqb c 24) (swamp_loss_at b 20)
    (cond (eqb c 25) (swamp_loss_at b 30)
    (cond (eqb c 26) (match_ee_posi_dof (float_at b 0) (float_at b 1))
    (cond (eqb c 27) (match_ee_rota_dof (float_at b 0) (float_at b 1))
    (each_joint_limits (float_at b 0) (float_at b 1) (float_at b 2)))))))

-- 29 to 31: norm, segment distance, determinant
unfoldable pub measure_of : ℕ → List ℕ → Float
measure_of c b =
    cond (eqb c 29) (norm_of (vec_at b 0))
    (cond (eqb c 30) (distance_of (vec_at b 0) (vec_at b 3) (vec_at b 6) (vec_at b 9))
    (determinant_of (listed (float_at b) 36)))

-- 32 to 36
unfoldable pub quat_of : ℕ → List ℕ → Quat
quat_of c b =
    cond (eqb c 32) (product_of (quat_at b 0) (quat_at b 4))
    (cond (eqb c 33) (inverse_of (quat_at b 0))
    (cond (eqb c 34) (quat_x_of (float_at b 0))
    (cond (eqb c 35) (quat_y_of (float_at b 0))
    (quat_z_of (float_at b 0)))))

-- 37 to 39
unfoldable pub vec_of : ℕ → List ℕ → Vec3
vec_of c b =
    cond (eqb c 37) (rotate_of (quat_at b 0) (vec_at b 4))
    (cond (eqb c 38) (cross_of (vec_at b 0) (vec_at b 3))
    (scaled_axis_of (quat_at b 0)))

-- all of them; 40 is the product of columns of six with their transpose
unfoldable pub leaf_of : ℕ → List ℕ → List Float
leaf_of c b =
    cond (ltb c 22) (standin_of c b ∷ [])
    (cond (ltb c 29) (loss_of c b ∷ [])
    (cond (ltb c 32) (measure_of c b ∷ [])
    (cond (ltb c 37) (flat_quat (quat_of c b))
    (cond (ltb c 40) (flat_vec (vec_of c b))
    (gram_of (floats_in 96 b))))))

unfoldable pub leaf_agrees : List ℕ → ℕ → Bool
leaf_agrees s at = answer_agrees s at 0 answered_list (bytes_of (leaf_of (number_at s at) (list_of s at asked_list)) ∷ [])

-- ---- laws: which of them a number is
module _ (c : ℕ) (b : List ℕ) where
  pub leaf-standin : c < 22 → leaf_of c b ≡ standin_of c b ∷ []
  unfolding leaf_of
  leaf-standin h = rw (lt-ltb c 22 h)

  pub leaf-loss : 22 ≤ c → c < 29 → leaf_of c b ≡ loss_of c b ∷ []
  unfolding leaf_of
  leaf-loss l h = rw (le-ltb c 22 l, lt-ltb c 29 h)

  pub leaf-measure : 29 ≤ c → c < 32 → leaf_of c b ≡ measure_of c b ∷ []
  unfolding leaf_of
  leaf-measure l h = rw (le-ltb c 22 (omega arith), le-ltb c 29 l, lt-ltb c 32 h)

  pub leaf-quat : 32 ≤ c → c < 37 → leaf_of c b ≡ flat_quat (quat_of c b)
  unfolding leaf_of
  leaf-quat l h = rw (le-ltb c 22 (omega arith), le-ltb c 29 (omega arith), le-ltb c 32 l, lt-ltb c 37 h)

  pub leaf-vec : 37 ≤ c → c < 40 → leaf_of c b ≡ flat_vec (vec_of c b)
  unfolding leaf_of
  leaf-vec l h = rw (le-ltb c 22 (omega arith), le-ltb c 29 (omega arith), le-ltb c 32 (omega arith), le-ltb c 37 l, lt-ltb c 40 h)

  pub leaf-gram : 40 ≤ c → leaf_of c b ≡ gram_of (floats_in 96 b)
  unfolding leaf_of
  leaf-gram l = rw (le-ltb c 22 (omega arith), le-ltb c 29 (omega arith), le-ltb c 32 (omega arith), le-ltb c 37 (omega arith), le-ltb c 40 l)
