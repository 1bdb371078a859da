-- `telescoped` meets its contract: each return follows the test.
use borrow.Author.Tests.{eq-eqb, ne_eqb}
use Rattle.spacetime.specs.Link.{telescoped_of}
use Rattle.spacetime.proofs.arm.telescoped.Goals as goal

pub returns-then-axis-eq0 : goal.returns-then-axis-eq0
unfolding telescoped_of
returns-then-axis-eq0 c = rw (eq-eqb _ 0 c.if-axis-eq0.true)

pub returns : goal.returns
unfolding telescoped_of
returns c = rw (ne_eqb _ 0 c.if-axis-eq0.false, ← c.own_axis.ensures, ← c.scale.ensures) c.add.ensures
