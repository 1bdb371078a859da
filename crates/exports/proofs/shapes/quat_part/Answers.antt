-- `quat_part` meets its contract: each return follows the tests before it.
use borrow.Author.Tests.{eq-eqb, ne_eqb}
use Rattle.standins.specs.Num.{nought-over-nought}
use Rattle.exports.specs.Parts.{quat_part}
use Rattle.exports.proofs.shapes.quat_part.Goals as goal

pub returns-then-part-eq0 : goal.returns-then-part-eq0
unfolding quat_part
returns-then-part-eq0 c = rw (eq-eqb _ 0 c.if-part-eq0.true)

pub returns-then-part-eq1 : goal.returns-then-part-eq1
unfolding quat_part
returns-then-part-eq1 c = rw (ne_eqb _ 0 c.if-part-eq0.false, eq-eqb _ 1 c.if-part-eq1.true)

pub returns-then-part-eq2 : goal.returns-then-part-eq2
unfolding quat_part
returns-then-part-eq2 c = rw (ne_eqb _ 0 c.if-part-eq0.false, ne_eqb _ 1 c.if-part-eq1.false, eq-eqb _ 2 c.if-part-eq2.true)

pub returns-then-part-eq3 : goal.returns-then-part-eq3
unfolding quat_part
returns-then-part-eq3 c = rw (ne_eqb _ 0 c.if-part-eq0.false, ne_eqb _ 1 c.if-part-eq1.false, ne_eqb _ 2 c.if-part-eq2.false, eq-eqb _ 3 c.if-part-eq3.true)

pub returns : goal.returns
unfolding quat_part
returns c = rw (ne_eqb _ 0 c.if-part-eq0.false, ne_eqb _ 1 c.if-part-eq1.false, ne_eqb _ 2 c.if-part-eq2.false, ne_eqb _ 3 c.if-part-eq3.false) nought-over-nought
