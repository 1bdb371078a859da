-- `gradient_one_block` meets its contract: the block is decoded, and the outputs that the call is lent are filled.
use mathlib.Core.Path.{sym, ap, ◌∙◌}
use native.Mathlib.Omega.{arith}
use lib.Seq.{length-take-le}
use Rattle.stored_answers.specs.Stored.{list_of}
use Prim.Native.Nat.{◌+◌}
use Rattle.lent_bytes.specs.Lent.{floats_in}
use Rattle.sequences.specs.Table.{objective_outputs}
use Rattle.sequences.specs.Lists.{front-floats, front-numbers}
use Rattle.sequences.proofs.steps.gradient_one_block.Goals as goal

pub slice_bounds-gradient_one_block-end-2 : goal.slice_bounds-gradient_one_block-end-2
slice_bounds-gradient_one_block-end-2 c = sym (length-take-le _ _ (omega (arith, c.room-l.ensures.1, c.buffer-a.ensures.1)))

pub slice_bounds-gradient_one_block-end-3 : goal.slice_bounds-gradient_one_block-end-3
slice_bounds-gradient_one_block-end-3 c = sym (length-take-le _ _ (omega (arith, c.number_room-m.ensures.1, c.number_buffer-b.ensures.1)))

pub slice_bounds-gradient_one_block-end-4 : goal.slice_bounds-gradient_one_block-end-4
slice_bounds-gradient_one_block-end-4 c = sym (length-take-le _ _ (omega (arith, c.number_room-n.ensures.1, c.number_buffer-c.ensures.1)))

pub slice_bounds-gradient_one_block-end-5 : goal.slice_bounds-gradient_one_block-end-5
slice_bounds-gradient_one_block-end-5 c = sym (length-take-le _ _ (omega (arith, c.room-o.ensures.1, c.buffer-d.ensures.1)))

pub gradient_one_block-requires : goal.gradient_one_block-requires
gradient_one_block-requires c =
    let o = list_of c.args.r.s.now c.args.r.at in record {
      block_value = c.floats-k.ensures.held ∙ ap (floats_in 64) c.list.ensures.0;
      slopes_value = (
        front-floats (o (objective_outputs + 2)) _ 8192 c.buffer-a.ensures.0 c.room-l.ensures.0 (omega (arith, c.room-l.ensures.1)),
        front-numbers (o (objective_outputs + 3)) _ 32768 c.number_buffer-b.ensures.0 c.number_room-m.ensures.0 (omega (arith, c.number_room-m.ensures.1)),
        front-numbers (o (objective_outputs + 4)) _ 32768 c.number_buffer-c.ensures.0 c.number_room-n.ensures.0 (omega (arith, c.number_room-n.ensures.1)),
        front-floats (o (objective_outputs + 5)) _ 8192 c.buffer-d.ensures.0 c.room-o.ensures.0 (omega (arith, c.room-o.ensures.1)),
      );
    }
