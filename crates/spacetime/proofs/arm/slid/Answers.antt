-- `slid` meets its contract: each return follows the test.
use mathlib.Core.Path.{ap, ◌∙◌}
use borrow.Author.Tests.{eq-eqb, ne_eqb}
use Rattle.geometry.specs.Vector.{add_of}
use Rattle.spacetime.specs.Link.{slid_of}
use Rattle.spacetime.proofs.arm.slid.Goals as goal

pub returns-then-axis-eq0 : goal.returns-then-axis-eq0
unfolding slid_of
returns-then-axis-eq0 c = rw (eq-eqb _ 0 c.if-axis-eq0.true)

pub returns : goal.returns
unfolding slid_of
returns c = rw (ne_eqb _ 0 c.if-axis-eq0.false) (c.add.ensures ∙ ap (add_of _) c.along.ensures)
