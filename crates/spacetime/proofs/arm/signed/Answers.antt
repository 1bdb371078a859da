-- `signed` meets its contract: each return follows the test.
use borrow.Author.Tests.{lt-ltb, le-ltb}
use Rattle.spacetime.specs.Link.{signed_by}
use Rattle.spacetime.proofs.arm.signed.Goals as goal

pub returns-then-axis-gt3 : goal.returns-then-axis-gt3
unfolding signed_by
returns-then-axis-gt3 c = rw (lt-ltb 3 _ c.if-axis-gt3.true)

pub returns : goal.returns
unfolding signed_by
returns c = rw (le-ltb 3 _ c.if-axis-gt3.false)
