-- `is_none` meets its contract: test after test.
use Rattle.spacetime.specs.Link.{is_none}
use Rattle.spacetime.proofs.arm.is_none.Goals as goal
use Rattle.spacetime.proofs.arm.is_none.Goals.{then-o, else-o}

pub returns-then-o-2 : goal.returns-then-o-2
unfolding is_none
returns-then-o-2 c = elim c.if-o.branch [ then-o w ↦ rw (w.if-o.true, ← w.value-is, c.if-o-2.true) | else-o w ↦ cc ]

pub returns-else-o-2 : goal.returns-else-o-2
unfolding is_none
returns-else-o-2 c = elim c.if-o.branch [ then-o w ↦ rw (w.if-o.true, ← w.value-is, c.if-o-2.false) | else-o w ↦ rw (w.if-o.false, c.if-o-2.false) ]
