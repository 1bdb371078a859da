-- `axis_vector` meets its contract: each return follows the test.
use borrow.Author.Tests.{eq-eqb, ne_eqb}
use Rattle.manipulability.specs.Jacobian.{axis_vector}
use Rattle.manipulability.proofs.jacobian.axis_vector.Goals as goal

pub returns-then-axis-eq0 : goal.returns-then-axis-eq0
unfolding axis_vector
returns-then-axis-eq0 c = rw (eq-eqb _ 0 c.if-axis-eq0.true)

pub returns : goal.returns
unfolding axis_vector
returns c = rw (ne_eqb _ 0 c.if-axis-eq0.false) c.own_axis.ensures
