-- `lent::history_refusal` meets its contract: there are no more joints than codes, and a list of codes is short enough.
use native.Mathlib.Omega.{arith}
use lib.ListN.{length}
use Rattle.sheet.specs.Chain.{joint-le, joint-last}
use Rattle.refusals.proofs.lent.history_refusal.Goals as goal

pub overflow_mul-n : goal.overflow_mul-n
overflow_mul-n c =
    let cs = c.args.codes.now in
    omega (arith, c.block_length-n.ensures, joint-last cs, joint-le cs (length cs), c.well_formed)
