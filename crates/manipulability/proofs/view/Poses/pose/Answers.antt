-- `pose` meets its contract: each return follows the test before it.
use mathlib.Core.Path.{sym, ◌∙◌}
use native.Mathlib.Omega.{arith}
use Rattle.manipulability.specs.View.{view_of, walked-true}
use Rattle.manipulability.proofs.view.Poses.pose.Goals as goal

pub overflow_sub-link : goal.overflow_sub-link
overflow_sub-link c = (walked-true _ _ _ (sym c.walked_again.ensures ∙ c.if-walked_again.true)).0

pub get-requires : goal.get-requires
get-requires c = omega (arith, walked-true _ _ _ (sym c.walked_again.ensures ∙ c.if-walked_again.true))

pub returns-then-walked_again : goal.returns-then-walked_again
unfolding view_of
returns-then-walked_again c = rw (sym c.walked_again.ensures ∙ c.if-walked_again.true) c.get.ensures

pub returns : goal.returns
unfolding view_of
returns c = rw (sym c.walked_again.ensures ∙ c.if-walked_again.false) c.get-2.ensures
