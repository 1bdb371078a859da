-- `pose` meets its contract: the output that the call is lent is filled.
use mathlib.Core.Path.{sym}
use native.Mathlib.Omega.{arith}
use lib.Seq.{length-take-le}
use Rattle.stored_answers.specs.Stored.{list_of}
use Rattle.sequences.specs.Table.{outputs}
use Rattle.sequences.specs.Lists.{front-floats}
use Rattle.sequences.proofs.steps.pose.Goals as goal

pub slice_bounds-pose-end : goal.slice_bounds-pose-end
slice_bounds-pose-end c = sym (length-take-le _ _ (omega (arith, c.room-n.ensures.1, c.buffer-a.ensures.1)))

pub pose-requires : goal.pose-requires
pose-requires c =
    let o = list_of c.args.r.s.now c.args.r.at in record {
      joints_value = c.requires;
      ends_value = front-floats (o outputs) _ 8192 c.buffer-a.ensures.0 c.room-n.ensures.0 (omega (arith, c.room-n.ensures.1));
    }
