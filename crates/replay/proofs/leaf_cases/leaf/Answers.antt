-- `leaf` meets its contract: by the call's number.
use mathlib.Core.Path.{refl, sym, ap, ◌∙◌}
use mathlib.Core.List.{List, [], ◌∷◌}
use native.Mathlib.Omega.{arith}
use lib.Ieee.{Float}
use Rattle.lent_bytes.specs.Lent.{bytes_of}
use Rattle.lent_bytes.specs.SheetLists.{same-two}
use Rattle.stored_answers.specs.Agree.{same_answer}
use Rattle.spacetime.specs.Floats.{flat_vec, flat_quat}
use Rattle.replay.specs.Leaves.{leaf_of, leaf_agrees, leaf-standin, leaf-loss, leaf-measure, leaf-quat, leaf-vec, leaf-gram}
use Rattle.replay.proofs.leaf_cases.leaf.Goals as goal

pub returns-in-0-to-21 : goal.returns-in-0-to-21
unfolding leaf_agrees
returns-in-0-to-21 c =
    let n = c.call-call.result in
    c.floats.ensures ∙ same_answer _ _ 1 refl (ap (λ (x : List Float). bytes_of x ∷ [])
    (ap (λ (x : Float). x ∷ []) c.standin.ensures ∙ sym (leaf-standin n _ (omega arith)) ∙ same-two leaf_of c.call-call.ensures.0 c.list-b.ensures.0))

pub returns-in-22-to-28 : goal.returns-in-22-to-28
unfolding leaf_agrees
returns-in-22-to-28 c =
    let n = c.call-call.result in
    c.floats-in-22-to-28.ensures ∙ same_answer _ _ 1 refl (ap (λ (x : List Float). bytes_of x ∷ [])
    (ap (λ (x : Float). x ∷ []) c.loss.ensures ∙ sym (leaf-loss n _ (omega arith) (omega arith)) ∙ same-two leaf_of c.call-call.ensures.0 c.list-b.ensures.0))

pub returns-in-29-to-31 : goal.returns-in-29-to-31
unfolding leaf_agrees
returns-in-29-to-31 c =
    let n = c.call-call.result in
    c.floats-in-29-to-31.ensures ∙ same_answer _ _ 1 refl (ap (λ (x : List Float). bytes_of x ∷ [])
    (ap (λ (x : Float). x ∷ []) c.measure.ensures ∙ sym (leaf-measure n _ (omega arith) (omega arith)) ∙ same-two leaf_of c.call-call.ensures.0 c.list-b.ensures.0))

pub returns-in-32-to-36 : goal.returns-in-32-to-36
unfolding leaf_agrees
returns-in-32-to-36 c =
    let n = c.call-call.result in
    c.quat-in-32-to-36.ensures ∙ same_answer _ _ 1 refl (ap (λ (x : List Float). bytes_of x ∷ [])
    (ap flat_quat c.quat.ensures ∙ sym (leaf-quat n _ (omega arith) (omega arith)) ∙ same-two leaf_of c.call-call.ensures.0 c.list-b.ensures.0))

pub returns-in-37-to-39 : goal.returns-in-37-to-39
unfolding leaf_agrees
returns-in-37-to-39 c =
    let n = c.call-call.result in
    c.vec-in-37-to-39.ensures ∙ same_answer _ _ 1 refl (ap (λ (x : List Float). bytes_of x ∷ [])
    (ap flat_vec c.vec.ensures ∙ sym (leaf-vec n _ (omega arith) (omega arith)) ∙ same-two leaf_of c.call-call.ensures.0 c.list-b.ensures.0))

pub returns-in_default : goal.returns-in_default
unfolding leaf_agrees
returns-in_default c =
    let n = c.call-call.result in
    c.floats-in_default.ensures ∙ same_answer _ _ 1 refl (ap (λ (x : List Float). bytes_of x ∷ [])
    (c.gram.ensures ∙ sym (leaf-gram n _ (omega arith)) ∙ same-two leaf_of c.call-call.ensures.0 c.list-b.ensures.0))
