-- `two_outputs` meets its contract: the outputs that the call is lent are filled.
use mathlib.Core.Path.{◌≡◌, sym, ap, ◌∙◌}
use Prim.Native.Nat.{ℕ, ◌+◌}
use native.Mathlib.Omega.{arith}
use borrow.Author.Tests.{ne_eqb}
use lib.ListN.{length}
use lib.Seq.{length-take-le}
use Rattle.stored_answers.specs.Stored.{list_of}
use Rattle.stored_answers.specs.Agree.{front-filled}
use Rattle.replay_calls.specs.Table.{pose_outputs, arm_outputs, outputs_from}
use Rattle.replay_calls.specs.Outputs.{two_agree}
use Rattle.replay_calls.proofs.outputs.two_outputs.Goals as goal

pub slice_bounds-frames-end : goal.slice_bounds-frames-end
slice_bounds-frames-end c = sym (length-take-le _ _ (omega (arith, c.room-m.ensures.1, c.buffer-a.ensures.1)))

pub slice_bounds-frames-end-in-6 : goal.slice_bounds-frames-end-in-6
slice_bounds-frames-end-in-6 c = sym (length-take-le _ _ (omega (arith, c.room-n.ensures.1, c.buffer-b.ensures.1)))

pub frames-requires : goal.frames-requires
unfolding outputs_from
frames-requires c =
    let o = list_of c.args.r.s.now c.args.r.at in
    let k = c.outputs_from-k.ensures.0 ∙ ap outputs_from c.in-6.is in (
      front-filled (o arm_outputs) _ 65536 c.buffer-a.ensures.0 (c.room-m.ensures.0 ∙ ap (λ (k : ℕ). length (o k)) k) (omega (arith, c.room-m.ensures.1)),
      front-filled (o (arm_outputs + 1)) _ 65536 c.buffer-b.ensures.0 (c.room-n.ensures.0 ∙ ap (λ (k : ℕ). length (o (k + 1))) k) (omega (arith, c.room-n.ensures.1)),
    )

pub returns-in-6 : goal.returns-in-6
unfolding two_agree
returns-in-6 c = rw c.in-6.is c.frames.ensures

pub slice_bounds-reset-end : goal.slice_bounds-reset-end
slice_bounds-reset-end c = sym (length-take-le _ _ (omega (arith, c.room-m.ensures.1, c.buffer-a.ensures.1)))

pub slice_bounds-reset-end-in_default : goal.slice_bounds-reset-end-in_default
slice_bounds-reset-end-in_default c = sym (length-take-le _ _ (omega (arith, c.room-n.ensures.1, c.buffer-b.ensures.1)))

pub reset-requires : goal.reset-requires
unfolding outputs_from
reset-requires c =
    let o = list_of c.args.r.s.now c.args.r.at in
    let n : c.args.call ≡ 7 = omega (arith, c.requires) in
    let k = c.outputs_from-k.ensures.0 ∙ ap outputs_from n in (
      front-filled (o pose_outputs) _ 65536 c.buffer-a.ensures.0 (c.room-m.ensures.0 ∙ ap (λ (k : ℕ). length (o k)) k) (omega (arith, c.room-m.ensures.1)),
      front-filled (o (pose_outputs + 1)) _ 65536 c.buffer-b.ensures.0 (c.room-n.ensures.0 ∙ ap (λ (k : ℕ). length (o (k + 1))) k) (omega (arith, c.room-n.ensures.1)),
    )

pub returns-in_default : goal.returns-in_default
unfolding two_agree
returns-in_default c = rw (ne_eqb c.args.call 6 (omega arith)) c.reset.ensures
