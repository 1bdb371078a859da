-- `plan_output` meets its contract: the output that the call is lent is filled.
use mathlib.Core.Path.{sym}
use native.Mathlib.Omega.{arith}
use lib.Seq.{length-take-le}
use Rattle.stored_answers.specs.Stored.{list_of}
use Rattle.stored_answers.specs.Agree.{front-filled}
use Rattle.replay_calls.specs.Table.{plan_output}
use Rattle.replay_calls.proofs.outputs.plan_output.Goals as goal

pub slice_bounds-sizing-end : goal.slice_bounds-sizing-end
slice_bounds-sizing-end c = sym (length-take-le _ _ (omega (arith, c.room-n.ensures.1, c.buffer-a.ensures.1)))

pub sizing-requires : goal.sizing-requires
sizing-requires c =
    front-filled (list_of c.args.r.s.now c.args.r.at plan_output) _ 65536 c.buffer-a.ensures.0 c.room-n.ensures.0 (omega (arith, c.room-n.ensures.1))
