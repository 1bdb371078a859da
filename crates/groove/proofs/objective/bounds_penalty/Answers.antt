-- `bounds_penalty` meets its contract: each return follows the tests before it.
use borrow.Author.Tests.{eq-eqb, ne_eqb}
use Rattle.groove.specs.Loss.{power_of, b_of, bounds_penalty}
use Rattle.groove.proofs.objective.bounds_penalty.Goals as goal

pub returns-then-p1-eq30 : goal.returns-then-p1-eq30
unfolding bounds_penalty power_of b_of
returns-then-p1-eq30 c = rw (eq-eqb _ 30 c.if-p1-eq30.true, c.exp.ensures, c.power30.ensures, c.b30.ensures.same)

pub returns : goal.returns
unfolding bounds_penalty power_of b_of
returns c = rw (ne_eqb _ 30 c.if-p1-eq30.false, c.exp-2.ensures, c.power20.ensures, c.b20.ensures.same)
