-- `gradient` meets its contract: the outputs that the call is lent are filled.
use mathlib.Core.Path.{sym}
use native.Mathlib.Omega.{arith}
use lib.Seq.{length-take-le}
use Rattle.stored_answers.specs.Stored.{list_of}
use Prim.Native.Nat.{◌+◌}
use Rattle.sequences.specs.Table.{objective_outputs}
use Rattle.sequences.specs.Lists.{front-floats}
use Rattle.sequences.proofs.steps.gradient.Goals as goal

pub slice_bounds-gradient-end : goal.slice_bounds-gradient-end
slice_bounds-gradient-end c = sym (length-take-le _ _ (omega (arith, c.room-m.ensures.1, c.buffer-a.ensures.1)))

pub slice_bounds-gradient-end-2 : goal.slice_bounds-gradient-end-2
slice_bounds-gradient-end-2 c = sym (length-take-le _ _ (omega (arith, c.room-n.ensures.1, c.buffer-b.ensures.1)))

pub gradient-requires : goal.gradient-requires
gradient-requires c =
    let o = list_of c.args.r.s.now c.args.r.at in record {
      joints_value = c.requires;
      scratch_value = (
        front-floats (o (objective_outputs + 1)) _ 8192 c.buffer-a.ensures.0 c.room-m.ensures.0 (omega (arith, c.room-m.ensures.1)),
        front-floats (o (objective_outputs + 2)) _ 8192 c.buffer-b.ensures.0 c.room-n.ensures.0 (omega (arith, c.room-n.ensures.1)),
      );
    }
