-- `leaf` meets its contract: by the call's number, and by what the calls of its arm ensure.
use native.Mathlib.Omega.{arith}
use mathlib.Core.Path.{refl, sym, ap, ◌∙◌}
use mathlib.Core.List.{List, [], ◌∷◌}
use lib.Ieee.{Float}
use borrow.Author.Tests.{ne_eqb}
use Rattle.utils_rust.specs.Acos.{acos_of}
use Rattle.utils_rust.specs.Transformations.{from_quaternion, quaternion_log, quaternion_disp, angle_between_quaternion}
use Rattle.spacetime.specs.Floats.{flat_vec, flat_quat}
use Rattle.objective_master.specs.Strict.{pos_goals_loss, quat_goals_loss}
use Rattle.lent_bytes.specs.Lent.{bytes_of}
use Rattle.lent_bytes.specs.SheetLists.{same-two}
use Rattle.stored_answers.specs.Agree.{same_answer}
use Rattle.replay.specs.StrictLeaves.{strict_leaf_of, strict_leaf_agrees}
use Rattle.replay.proofs.strict_leaves.leaf.Goals as goal

pub returns-in-44 : goal.returns-in-44
unfolding strict_leaf_agrees strict_leaf_of
returns-in-44 c =
    c.floats.ensures ∙ same_answer _ _ 1 refl (ap (λ (x : List Float). bytes_of x ∷ [])
    (ap (λ (x : Float). x ∷ []) (c.acos.ensures ∙ ap acos_of c.float_at.ensures)
    ∙ same-two strict_leaf_of (sym c.in-44.is ∙ c.call-call.ensures.0) c.list-b.ensures.0))

pub returns-in-45 : goal.returns-in-45
unfolding strict_leaf_agrees strict_leaf_of
returns-in-45 c =
    c.quat.ensures ∙ same_answer _ _ 1 refl (ap (λ (x : List Float). bytes_of x ∷ [])
    (ap flat_quat (c.from_quaternion.ensures ∙ ap from_quaternion c.quat_at.ensures)
    ∙ same-two strict_leaf_of (sym c.in-45.is ∙ c.call-call.ensures.0) c.list-b.ensures.0))

pub returns-in-46 : goal.returns-in-46
unfolding strict_leaf_agrees strict_leaf_of
returns-in-46 c =
    c.vec.ensures ∙ same_answer _ _ 1 refl (ap (λ (x : List Float). bytes_of x ∷ [])
    (ap flat_vec (c.quaternion_log.ensures ∙ ap quaternion_log c.quat_at-in-46.ensures)
    ∙ same-two strict_leaf_of (sym c.in-46.is ∙ c.call-call.ensures.0) c.list-b.ensures.0))

pub returns-in-47 : goal.returns-in-47
unfolding strict_leaf_agrees strict_leaf_of
returns-in-47 c =
    c.vec-in-47.ensures ∙ same_answer _ _ 1 refl (ap (λ (x : List Float). bytes_of x ∷ [])
    (ap flat_vec (c.quaternion_disp.ensures ∙ same-two quaternion_disp c.quat_at-in-47.ensures c.quat_at-in-47-2.ensures)
    ∙ same-two strict_leaf_of (sym c.in-47.is ∙ c.call-call.ensures.0) c.list-b.ensures.0))

pub returns-in-48 : goal.returns-in-48
unfolding strict_leaf_agrees strict_leaf_of
returns-in-48 c =
    c.floats-in-48.ensures ∙ same_answer _ _ 1 refl (ap (λ (x : List Float). bytes_of x ∷ [])
    (ap (λ (x : Float). x ∷ []) (c.angle_between_quaternion.ensures ∙ same-two angle_between_quaternion c.quat_at-in-48.ensures c.quat_at-in-48-2.ensures)
    ∙ same-two strict_leaf_of (sym c.in-48.is ∙ c.call-call.ensures.0) c.list-b.ensures.0))

pub returns-in-49 : goal.returns-in-49
unfolding strict_leaf_agrees strict_leaf_of
returns-in-49 c =
    c.floats-in-49.ensures ∙ same_answer _ _ 1 refl (ap (λ (x : List Float). bytes_of x ∷ [])
    (ap (λ (x : Float). x ∷ []) (c.pos_goals_loss.ensures ∙ same-two pos_goals_loss c.vec_at.ensures c.vec_at-in-49.ensures)
    ∙ same-two strict_leaf_of (sym c.in-49.is ∙ c.call-call.ensures.0) c.list-b.ensures.0))

pub returns-in_default : goal.returns-in_default
unfolding strict_leaf_agrees strict_leaf_of
returns-in_default c =
    rw (← c.call-call.ensures.0, ← c.list-b.ensures.0, ne_eqb c.call-call.result 44 (omega arith), ne_eqb c.call-call.result 45 (omega arith), ne_eqb c.call-call.result 46 (omega arith), ne_eqb c.call-call.result 47 (omega arith), ne_eqb c.call-call.result 48 (omega arith), ne_eqb c.call-call.result 49 (omega arith))
    (c.floats-in_default.ensures ∙ same_answer _ _ 1 refl (ap (λ (x : Float). bytes_of (x ∷ []) ∷ [])
    (c.quat_goals_loss.ensures ∙ same-two quat_goals_loss c.quat_at-in_default.ensures c.quat_at-in_default-2.ensures)))
