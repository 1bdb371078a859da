-- `five_outputs` meets its contract: the outputs that the call is lent are filled.
use mathlib.Core.Path.{sym}
use Prim.Native.Nat.{◌+◌}
use native.Mathlib.Omega.{arith}
use lib.Seq.{length-take-le}
use Rattle.stored_answers.specs.Stored.{list_of}
use Rattle.stored_answers.specs.Agree.{front-filled}
use Rattle.replay_calls.specs.Table.{objective_outputs}
use Rattle.replay_calls.proofs.outputs.five_outputs.Goals as goal

pub slice_bounds-gradient_one_block-end : goal.slice_bounds-gradient_one_block-end
slice_bounds-gradient_one_block-end c = sym (length-take-le _ _ (omega (arith, c.room-k.ensures.1, c.buffer-a.ensures.1)))

pub slice_bounds-gradient_one_block-end-2 : goal.slice_bounds-gradient_one_block-end-2
slice_bounds-gradient_one_block-end-2 c = sym (length-take-le _ _ (omega (arith, c.room-l.ensures.1, c.buffer-b.ensures.1)))

pub slice_bounds-gradient_one_block-end-3 : goal.slice_bounds-gradient_one_block-end-3
slice_bounds-gradient_one_block-end-3 c = sym (length-take-le _ _ (omega (arith, c.room-m.ensures.1, c.buffer-c.ensures.1)))

pub slice_bounds-gradient_one_block-end-4 : goal.slice_bounds-gradient_one_block-end-4
slice_bounds-gradient_one_block-end-4 c = sym (length-take-le _ _ (omega (arith, c.room-n.ensures.1, c.buffer-d.ensures.1)))

pub slice_bounds-gradient_one_block-end-5 : goal.slice_bounds-gradient_one_block-end-5
slice_bounds-gradient_one_block-end-5 c = sym (length-take-le _ _ (omega (arith, c.room-o.ensures.1, c.buffer-e.ensures.1)))

pub gradient_one_block-requires : goal.gradient_one_block-requires
gradient_one_block-requires c =
    let o = list_of c.args.r.s.now c.args.r.at in (
      front-filled (o objective_outputs) _ 65536 c.buffer-a.ensures.0 c.room-k.ensures.0 (omega (arith, c.room-k.ensures.1)),
      front-filled (o (objective_outputs + 1)) _ 65536 c.buffer-b.ensures.0 c.room-l.ensures.0 (omega (arith, c.room-l.ensures.1)),
      front-filled (o (objective_outputs + 2)) _ 65536 c.buffer-c.ensures.0 c.room-m.ensures.0 (omega (arith, c.room-m.ensures.1)),
      front-filled (o (objective_outputs + 3)) _ 65536 c.buffer-d.ensures.0 c.room-n.ensures.0 (omega (arith, c.room-n.ensures.1)),
      front-filled (o (objective_outputs + 4)) _ 65536 c.buffer-e.ensures.0 c.room-o.ensures.0 (omega (arith, c.room-o.ensures.1)),
    )
