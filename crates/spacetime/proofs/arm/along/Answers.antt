-- `along` meets its contract: each return follows the tests before it.
use borrow.Author.Tests.{eq-eqb, ne_eqb}
use Rattle.spacetime.specs.Link.{along_of}
use Rattle.spacetime.proofs.arm.along.Goals as goal

pub returns-then-coordinate-eq1 : goal.returns-then-coordinate-eq1
unfolding along_of
returns-then-coordinate-eq1 c = rw (eq-eqb _ 1 c.if-coordinate-eq1.true, c.signed-s.ensures)

pub returns-then-coordinate-eq2 : goal.returns-then-coordinate-eq2
unfolding along_of
returns-then-coordinate-eq2 c = rw (ne_eqb _ 1 c.if-coordinate-eq1.false, eq-eqb _ 2 c.if-coordinate-eq2.true, c.signed-s.ensures)

pub returns : goal.returns
unfolding along_of
returns c = rw (ne_eqb _ 1 c.if-coordinate-eq1.false, ne_eqb _ 2 c.if-coordinate-eq2.false, c.signed-s.ensures)
