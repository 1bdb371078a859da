-- `put_strict_losses` meets its contract: two floats that touch are one list.
use mathlib.Core.Path.{◌≡◌, sym, ap, ◌∙◌}
use mathlib.Core.List.{List, [], ◌∷◌}
use Prim.Native.Nat.{◌+◌}
use native.Mathlib.Omega.{arith}
use lib.Ieee.{Float}
use lib.ListN.{length, set, length-set}
use Rattle.geometry.specs.declared.vector.Vec3.{Vec3}
use Rattle.geometry.specs.declared.quaternion.Quat.{Quat}
use Rattle.lists.specs.Splice.{splice, splice-one, splice-splice, length-splice}
use Rattle.objective_master.specs.Objective.{goal_width}
use Rattle.objective_master.specs.Strict.{pos_goals_loss, quat_goals_loss}
use Rattle.objective_master.specs.Losses.{goal_position, goal_quat, strict_losses}
use borrow.Author.Rules.{rules}
use Rattle.objective_master.proofs.losses.put_strict_losses.Goals as goal

pub offset_bounds-out-at : goal.offset_bounds-out-at
unfolding goal_width
offset_bounds-out-at c = search rules

pub bounds-out-at : goal.bounds-out-at
unfolding goal_width
bounds-out-at c = search rules

pub overflow_add-out : goal.overflow_add-out
unfolding goal_width
overflow_add-out c = search rules

pub offset_bounds-out-at-2 : goal.offset_bounds-out-at-2
unfolding goal_width
offset_bounds-out-at-2 c = search rules

pub bounds-out-at-2 : goal.bounds-out-at-2
unfolding goal_width
bounds-out-at-2 c = simp length-set (omega arith)

pub returns : goal.returns
unfolding goal_width strict_losses goal_position goal_quat
returns c =
    let a = c.args in
    let o = a.out.now in
    let p = c.pos_goals_loss.result in
    let q = c.quat_goals_loss.result in
    let len : length (splice o a.at (p ∷ [])) ≡ length o = length-splice o a.at (p ∷ []) (omega (arith, c.requires)) in
    ap (λ (l : List Float). set l (a.at + 1) q) (sym (splice-one o a.at p (omega (arith, c.requires))))
    ∙ sym (splice-one (splice o a.at (p ∷ [])) (a.at + 1) q (omega (arith, c.requires)))
    ∙ splice-splice o a.at (a.at + 1) (p ∷ []) (q ∷ []) (omega arith) (omega (arith, c.requires))
    ∙ ap (λ (z : Float). splice o a.at (z ∷ q ∷ [])) (c.pos_goals_loss.ensures ∙ ap (λ (g : Vec3). pos_goals_loss g a.end.position) c.get_vec-goal_position.ensures)
    ∙ ap (λ (z : Float). splice o a.at (pos_goals_loss (goal_position a.goals.now a.c) a.end.position ∷ z ∷ []))
    (c.quat_goals_loss.ensures ∙ ap (λ (g : Quat). quat_goals_loss g a.end.rotation) c.get_quat-goal_quat.ensures)
