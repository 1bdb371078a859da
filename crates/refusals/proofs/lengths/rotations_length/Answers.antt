-- `lengths::rotations_length` meets its contract: the chains' lengths, summed.
use native.Mathlib.Omega.{arith}
use Rattle.refusals.specs.Lengths.{rotations-sum}
use Rattle.refusals.proofs.lengths.rotations_length.Goals as goal

pub returns : goal.returns
returns c = omega (arith, rotations-sum c.args.counts.now)
