-- `three_outputs` meets its contract: the outputs that the call is lent are filled.
use mathlib.Core.Path.{sym}
use Prim.Native.Nat.{◌+◌}
use native.Mathlib.Omega.{arith}
use borrow.Author.Tests.{eq-eqb, ne_eqb}
use lib.Seq.{length-take-le}
use Rattle.stored_answers.specs.Stored.{list_of}
use Rattle.stored_answers.specs.Agree.{front-filled}
use Rattle.replay_calls.specs.Outputs.{three_agree}
use Rattle.replay_calls.specs.Table.{objective_outputs}
use Rattle.replay_calls.proofs.outputs.three_outputs.Goals as goal

pub slice_bounds-gradient-end : goal.slice_bounds-gradient-end
slice_bounds-gradient-end c = sym (length-take-le _ _ (omega (arith, c.room-l.ensures.1, c.buffer-a.ensures.1)))

pub slice_bounds-gradient-end-then-call-eq8 : goal.slice_bounds-gradient-end-then-call-eq8
slice_bounds-gradient-end-then-call-eq8 c = sym (length-take-le _ _ (omega (arith, c.room-m.ensures.1, c.buffer-b.ensures.1)))

pub slice_bounds-gradient-end-then-call-eq8-2 : goal.slice_bounds-gradient-end-then-call-eq8-2
slice_bounds-gradient-end-then-call-eq8-2 c = sym (length-take-le _ _ (omega (arith, c.room-n.ensures.1, c.buffer-c.ensures.1)))

pub gradient-requires : goal.gradient-requires
gradient-requires c =
    let o = list_of c.args.r.s.now c.args.r.at in (
      front-filled (o objective_outputs) _ 65536 c.buffer-a.ensures.0 c.room-l.ensures.0 (omega (arith, c.room-l.ensures.1)),
      front-filled (o (objective_outputs + 1)) _ 65536 c.buffer-b.ensures.0 c.room-m.ensures.0 (omega (arith, c.room-m.ensures.1)),
      front-filled (o (objective_outputs + 2)) _ 65536 c.buffer-c.ensures.0 c.room-n.ensures.0 (omega (arith, c.room-n.ensures.1)),
    )

pub returns-then-call-eq8 : goal.returns-then-call-eq8
unfolding three_agree
returns-then-call-eq8 c = rw (eq-eqb _ 8 c.if-call-eq8.true) c.gradient.ensures

pub slice_bounds-gradient_finite_diff-end : goal.slice_bounds-gradient_finite_diff-end
slice_bounds-gradient_finite_diff-end c = sym (length-take-le _ _ (omega (arith, c.room-l.ensures.1, c.buffer-a.ensures.1)))

pub slice_bounds-gradient_finite_diff-end-2 : goal.slice_bounds-gradient_finite_diff-end-2
slice_bounds-gradient_finite_diff-end-2 c = sym (length-take-le _ _ (omega (arith, c.room-m.ensures.1, c.buffer-b.ensures.1)))

pub slice_bounds-gradient_finite_diff-end-3 : goal.slice_bounds-gradient_finite_diff-end-3
slice_bounds-gradient_finite_diff-end-3 c = sym (length-take-le _ _ (omega (arith, c.room-n.ensures.1, c.buffer-c.ensures.1)))

pub gradient_finite_diff-requires : goal.gradient_finite_diff-requires
gradient_finite_diff-requires c =
    let o = list_of c.args.r.s.now c.args.r.at in (
      front-filled (o objective_outputs) _ 65536 c.buffer-a.ensures.0 c.room-l.ensures.0 (omega (arith, c.room-l.ensures.1)),
      front-filled (o (objective_outputs + 1)) _ 65536 c.buffer-b.ensures.0 c.room-m.ensures.0 (omega (arith, c.room-m.ensures.1)),
      front-filled (o (objective_outputs + 2)) _ 65536 c.buffer-c.ensures.0 c.room-n.ensures.0 (omega (arith, c.room-n.ensures.1)),
    )

pub returns : goal.returns
unfolding three_agree
returns c = rw (ne_eqb _ 8 c.if-call-eq8.false) c.gradient_finite_diff.ensures
