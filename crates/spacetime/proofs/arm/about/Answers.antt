-- `about` meets its contract: each return follows the test.
use borrow.Author.Tests.{eq-eqb, ne_eqb}
use Rattle.spacetime.specs.Link.{about_of}
use Rattle.spacetime.proofs.arm.about.Goals as goal

pub returns-then-axis-eq0 : goal.returns-then-axis-eq0
unfolding about_of
returns-then-axis-eq0 c = rw (eq-eqb _ 0 c.if-axis-eq0.true)

pub returns : goal.returns
unfolding about_of
returns c = rw (ne_eqb _ 0 c.if-axis-eq0.false) c.product.ensures
