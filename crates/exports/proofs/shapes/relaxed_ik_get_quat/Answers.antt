-- `relaxed_ik_get_quat` meets its contract: each return follows the tests before it.
use borrow.Author.Tests.{eq-eqb, ne_eqb}
use Rattle.standins.specs.Num.{nought-over-nought}
use Rattle.exports.specs.Parts.{get_quat_part}
use Rattle.exports.proofs.shapes.relaxed_ik_get_quat.Goals as goal

pub returns-then-axis-eq0 : goal.returns-then-axis-eq0
unfolding get_quat_part
returns-then-axis-eq0 c = rw (eq-eqb _ 0 c.if-axis-eq0.true) (cc)

pub returns-then-axis-eq1 : goal.returns-then-axis-eq1
unfolding get_quat_part
returns-then-axis-eq1 c = rw (ne_eqb _ 0 c.if-axis-eq0.false, eq-eqb _ 1 c.if-axis-eq1.true) (cc)

pub returns-then-axis-eq2 : goal.returns-then-axis-eq2
unfolding get_quat_part
returns-then-axis-eq2 c = rw (ne_eqb _ 0 c.if-axis-eq0.false, ne_eqb _ 1 c.if-axis-eq1.false, eq-eqb _ 2 c.if-axis-eq2.true) (cc)

pub returns : goal.returns
unfolding get_quat_part
returns c = rw (ne_eqb _ 0 c.if-axis-eq0.false, ne_eqb _ 1 c.if-axis-eq1.false, ne_eqb _ 2 c.if-axis-eq2.false) nought-over-nought
