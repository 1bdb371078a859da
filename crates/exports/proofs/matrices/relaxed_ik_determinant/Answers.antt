-- `relaxed_ik_determinant` meets its contract: by the test of the length, and by what its two calls ensure.
use mathlib.Core.Path.{ap, ◌∙◌}
use borrow.Author.Tests.{eq-eqb, ne_eqb}
use Rattle.standins.specs.Num.{nought-over-nought}
use Rattle.geometry.specs.Matrix.{determinant_of}
use Rattle.exports.specs.Matrices.{determinant_in}
use Rattle.exports.proofs.matrices.relaxed_ik_determinant.Goals as goal

pub returns-then-rows-ne288 : goal.returns-then-rows-ne288
unfolding determinant_in
returns-then-rows-ne288 c = rw (ne_eqb _ 288 c.if-rows-ne288.true) nought-over-nought

pub returns : goal.returns
unfolding determinant_in
returns c = rw (eq-eqb _ 288 c.if-rows-ne288.false) (c.determinant.ensures ∙ ap determinant_of c.floats.ensures)
