-- `free` meets its contract: each return follows the tests before it.
use lib.Ieee.{of_int, of_bits}
use Rattle.groove.specs.Loss.{free_of}
use Rattle.groove.proofs.objective.free.Goals as goal

pub returns-then-l : goal.returns-then-l
unfolding free_of of_bits of_int
returns-then-l c = rw c.if-l.true

pub returns-else-l : goal.returns-else-l
unfolding free_of of_bits of_int
returns-else-l c = rw c.if-l.false
