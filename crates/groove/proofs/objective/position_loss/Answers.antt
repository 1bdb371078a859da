-- `position_loss` meets its contract: each return follows the test before it.
use lib.Ieee.{of_int, of_bits}
use Rattle.groove.specs.Loss.{position_loss}
use Rattle.groove.proofs.objective.position_loss.Goals as goal

pub returns-then-narrow : goal.returns-then-narrow
unfolding position_loss of_bits of_int
returns-then-narrow c = rw (← c.narrow.ensures, c.if-narrow.true)

pub returns : goal.returns
unfolding position_loss
returns c = rw (← c.narrow.ensures, c.if-narrow.false) c.room_loss.ensures
