-- `offset` meets its contract: each return follows the test.
use Rattle.spacetime.specs.Link.{offset_of}
use Rattle.spacetime.proofs.arm.offset.Goals as goal

pub returns-then-is_none : goal.returns-then-is_none
unfolding offset_of
returns-then-is_none c = rw (← c.is_none.ensures, c.if-is_none.true)

pub returns : goal.returns
unfolding offset_of
returns c = rw (← c.is_none.ensures, c.if-is_none.false) c.product.ensures
