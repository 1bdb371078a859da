-- `turn` meets its contract: each return follows the tests before it.
use mathlib.Core.Path.{ap, ◌∙◌}
use borrow.Author.Tests.{eq-eqb, ne_eqb}
use Rattle.geometry.specs.Quaternion.{quat_x_of, quat_y_of, quat_z_of}
use Rattle.spacetime.specs.Link.{turn_of}
use Rattle.spacetime.proofs.arm.turn.Goals as goal

pub returns-then-coordinate-eq1 : goal.returns-then-coordinate-eq1
unfolding turn_of
returns-then-coordinate-eq1 c = rw (eq-eqb _ 1 c.if-coordinate-eq1.true) (c.get_quat_x.ensures ∙ ap quat_x_of c.signed-s.ensures)

pub returns-then-coordinate-eq2 : goal.returns-then-coordinate-eq2
unfolding turn_of
returns-then-coordinate-eq2 c = rw (ne_eqb _ 1 c.if-coordinate-eq1.false, eq-eqb _ 2 c.if-coordinate-eq2.true) (c.get_quat_y.ensures ∙ ap quat_y_of c.signed-s.ensures)

pub returns : goal.returns
unfolding turn_of
returns c = rw (ne_eqb _ 1 c.if-coordinate-eq1.false, ne_eqb _ 2 c.if-coordinate-eq2.false) (c.get_quat_z.ensures ∙ ap quat_z_of c.signed-s.ensures)
