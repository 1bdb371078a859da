-- `limits_loss` meets its contract: each return follows the test before it.
use lib.Ieee.{of_int, of_bits}
use Rattle.groove.specs.Loss.{limits_loss}
use Rattle.groove.proofs.objective.limits_loss.Goals as goal

pub returns-then-free : goal.returns-then-free
unfolding limits_loss
returns-then-free c = rw (← c.free.ensures, c.if-free.true)

pub returns : goal.returns
unfolding limits_loss of_bits of_int
returns c = rw (← c.free.ensures, c.if-free.false)
