-- `unit` meets its contract: each return follows the test.
use borrow.Author.Tests.{eq-eqb, ne_eqb}
use Rattle.manipulability.specs.Jacobian.{unit_of}
use Rattle.manipulability.proofs.jacobian.unit.Goals as goal

pub returns-then-i : goal.returns-then-i
unfolding unit_of
returns-then-i c = rw (eq-eqb _ _ c.if-i.true)

pub returns : goal.returns
unfolding unit_of
returns c = rw (ne_eqb _ _ c.if-i.false)
