-- `lengths::positions_length` meets its contract: the chains' lengths, summed.
use native.Mathlib.Omega.{arith}
use Rattle.refusals.specs.Lengths.{positions-sum}
use Rattle.refusals.proofs.lengths.positions_length.Goals as goal

pub returns : goal.returns
returns c = omega (arith, positions-sum c.args.counts.now)
