-- `walked_again` meets its contract.
use borrow.Author.Tests.{le-leb, lt-leb}
use Rattle.manipulability.specs.View.{walked_again}
use Rattle.manipulability.proofs.view.Poses.walked_again.Goals as goal

pub returns-then-self-link : goal.returns-then-self-link
unfolding walked_again
returns-then-self-link c = rw (le-leb _ _ c.if-self-link.true)

pub returns-else-self-link : goal.returns-else-self-link
unfolding walked_again
returns-else-self-link c = rw (lt-leb _ _ c.if-self-link.false)
