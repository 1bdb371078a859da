-- `lengths::history_length` meets its contract. There are no more joints than codes, and a list of codes is short enough.
use native.Mathlib.Omega.{arith}
use lib.ListN.{length}
use Rattle.sheet.specs.Chain.{joint-le, joint-last}
use Rattle.refusals.proofs.lengths.history_length.Goals as goal

pub overflow_mul-result : goal.overflow_mul-result
overflow_mul-result c =
    let cs = c.args.codes.now in
    omega (arith, c.block_length.ensures, joint-last cs, joint-le cs (length cs), c.well_formed)
