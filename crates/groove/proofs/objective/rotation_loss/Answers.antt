-- `rotation_loss` meets its contract: each return follows the tests before it.
use lib.Ieee.{of_int, of_bits}
use Rattle.groove.specs.Loss.{rotation_loss}
use Rattle.groove.proofs.objective.rotation_loss.Goals as goal

pub returns-then-narrow : goal.returns-then-narrow
unfolding rotation_loss of_bits of_int
returns-then-narrow c = rw (← c.narrow.ensures, c.if-narrow.true)

pub returns-then-bound : goal.returns-then-bound
unfolding rotation_loss of_bits of_int
returns-then-bound c = rw (← c.narrow.ensures, c.if-narrow.false, c.if-bound.true)

pub returns : goal.returns
unfolding rotation_loss
returns c = rw (← c.narrow.ensures, c.if-narrow.false, c.if-bound.false) c.room_loss.ensures
