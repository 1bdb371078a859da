-- `min` meets its contract: each return follows the tests before it.
use Rattle.objective_master.specs.Strict.{min_of}
use Rattle.objective_master.proofs.strict.min.Goals as goal

pub returns-then-a : goal.returns-then-a
unfolding min_of
returns-then-a c = rw c.if-a.true

pub returns-then-b-a : goal.returns-then-b-a
unfolding min_of
returns-then-b-a c = rw (c.if-a.false, c.if-b-a.true)

pub returns : goal.returns
unfolding min_of
returns c = rw (c.if-a.false, c.if-b-a.false)
