-- `pair_loss` meets its contract: each return follows the tests before it.
use lib.Ieee.{of_int, of_bits}
use Rattle.groove.specs.Loss.{pair_loss}
use Rattle.groove.proofs.objective.pair_loss.Goals as goal

pub returns-then-any_nan : goal.returns-then-any_nan
unfolding pair_loss of_bits of_int
returns-then-any_nan c = rw c.if-any_nan.true

pub returns : goal.returns
unfolding pair_loss of_bits of_int
returns c = rw c.if-any_nan.false
