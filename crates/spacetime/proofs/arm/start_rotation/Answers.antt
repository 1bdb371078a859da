-- `start_rotation` meets its contract: each return follows the test.
use Rattle.spacetime.specs.Turns.{start_turn}
use Rattle.spacetime.proofs.arm.start_rotation.Goals as goal

pub returns-then-is_first : goal.returns-then-is_first
unfolding start_turn
returns-then-is_first c = rw (← c.is_first.ensures, c.if-is_first.true) c.identity.ensures

pub returns : goal.returns
unfolding start_turn
returns c = rw (← c.is_first.ensures, c.if-is_first.false)
