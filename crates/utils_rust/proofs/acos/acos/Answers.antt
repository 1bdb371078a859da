-- `acos` meets its contract: each return follows the test of the sign.
use Rattle.utils_rust.specs.Acos.{acos_of}
use Rattle.utils_rust.proofs.acos.acos.Goals as goal

pub returns-then-w : goal.returns-then-w
unfolding acos_of
returns-then-w c = rw (c.if-w.true, c.acute-a.ensures)

pub returns : goal.returns
unfolding acos_of
returns c = rw c.if-w.false c.acute-a.ensures
