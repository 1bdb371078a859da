-- `one_output` meets its contract: the output that the call is lent is filled.
use mathlib.Core.Path.{◌≡◌, sym, ap, ◌∙◌}
use Prim.Native.Nat.{ℕ}
use native.Mathlib.Omega.{arith}
use borrow.Author.Tests.{ne_eqb}
use lib.ListN.{length}
use lib.Seq.{length-take-le}
use Rattle.stored_answers.specs.Stored.{list_of}
use Rattle.stored_answers.specs.Agree.{front-filled}
use Rattle.replay_calls.specs.Table.{pose_outputs, arm_outputs, update_output, objective_outputs, outputs_from}
use Rattle.replay_calls.specs.Outputs.{one_agrees}
use Rattle.replay_calls.proofs.outputs.one_output.Goals as goal

pub slice_bounds-pose-end : goal.slice_bounds-pose-end
slice_bounds-pose-end c = sym (length-take-le _ _ (omega (arith, c.room-n.ensures.1, c.buffer-a.ensures.1)))

pub pose-requires : goal.pose-requires
unfolding outputs_from
pose-requires c =
    front-filled (list_of c.args.r.s.now c.args.r.at pose_outputs) _ 65536 c.buffer-a.ensures.0
    (c.room-n.ensures.0 ∙ ap (λ (k : ℕ). length (list_of c.args.r.s.now c.args.r.at k)) (c.outputs_from.ensures.0 ∙ ap outputs_from c.in-2.is)) (omega (arith, c.room-n.ensures.1))

pub returns-in-2 : goal.returns-in-2
unfolding one_agrees
returns-in-2 c = rw c.in-2.is c.pose.ensures

pub slice_bounds-manipulability-end : goal.slice_bounds-manipulability-end
slice_bounds-manipulability-end c = sym (length-take-le _ _ (omega (arith, c.room-n.ensures.1, c.buffer-a.ensures.1)))

pub manipulability-requires : goal.manipulability-requires
unfolding outputs_from
manipulability-requires c =
    front-filled (list_of c.args.r.s.now c.args.r.at arm_outputs) _ 65536 c.buffer-a.ensures.0
    (c.room-n.ensures.0 ∙ ap (λ (k : ℕ). length (list_of c.args.r.s.now c.args.r.at k)) (c.outputs_from.ensures.0 ∙ ap outputs_from c.in-3.is)) (omega (arith, c.room-n.ensures.1))

pub returns-in-3 : goal.returns-in-3
unfolding one_agrees
returns-in-3 c = rw c.in-3.is c.manipulability.ensures

pub slice_bounds-update-end : goal.slice_bounds-update-end
slice_bounds-update-end c = sym (length-take-le _ _ (omega (arith, c.room-n.ensures.1, c.buffer-a.ensures.1)))

pub update-requires : goal.update-requires
unfolding outputs_from
update-requires c =
    front-filled (list_of c.args.r.s.now c.args.r.at update_output) _ 65536 c.buffer-a.ensures.0
    (c.room-n.ensures.0 ∙ ap (λ (k : ℕ). length (list_of c.args.r.s.now c.args.r.at k)) (c.outputs_from.ensures.0 ∙ ap outputs_from c.in-4.is)) (omega (arith, c.room-n.ensures.1))

pub returns-in-4 : goal.returns-in-4
unfolding one_agrees
returns-in-4 c = rw c.in-4.is c.update.ensures

pub slice_bounds-objective-end : goal.slice_bounds-objective-end
slice_bounds-objective-end c = sym (length-take-le _ _ (omega (arith, c.room-n.ensures.1, c.buffer-a.ensures.1)))

pub objective-requires : goal.objective-requires
unfolding outputs_from
objective-requires c =
    let n : c.args.call ≡ 5 = omega (arith, c.requires) in
    let k : outputs_from c.args.call ≡ objective_outputs = ap outputs_from n in front-filled (list_of c.args.r.s.now c.args.r.at objective_outputs) _ 65536 c.buffer-a.ensures.0
    (c.room-n.ensures.0 ∙ ap (λ (k : ℕ). length (list_of c.args.r.s.now c.args.r.at k)) (c.outputs_from.ensures.0 ∙ k)) (omega (arith, c.room-n.ensures.1))

pub returns-in_default : goal.returns-in_default
unfolding one_agrees
returns-in_default c =
    rw (ne_eqb c.args.call 2 (omega arith), ne_eqb c.args.call 3 (omega arith), ne_eqb c.args.call 4 (omega arith)) c.objective.ensures
