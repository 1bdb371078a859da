-- `start` meets its contract: each return follows the test.
use Rattle.spacetime.specs.Walk.{start_of}
use Rattle.spacetime.proofs.arm.start.Goals as goal

pub returns-then-is_first : goal.returns-then-is_first
unfolding start_of
returns-then-is_first c = rw (← c.is_first.ensures, c.if-is_first.true) c.origin.ensures

pub returns : goal.returns
unfolding start_of
returns c = rw (← c.is_first.ensures, c.if-is_first.false)
