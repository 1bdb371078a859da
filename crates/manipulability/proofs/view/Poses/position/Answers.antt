-- `position` meets its contract: each return follows the test before it.
use mathlib.Core.Path.{sym, ◌∙◌}
use native.Mathlib.Omega.{arith}
use Rattle.manipulability.specs.View.{view_of, walked-true}
use Rattle.spacetime.specs.Floats.{pose_at}
use Rattle.manipulability.proofs.view.Poses.position.Goals as goal

pub overflow_sub-link : goal.overflow_sub-link
overflow_sub-link c = (walked-true _ _ _ (sym c.walked_again.ensures ∙ c.if-walked_again.true)).0

pub get_vec-requires : goal.get_vec-requires
get_vec-requires c = omega (arith, walked-true _ _ _ (sym c.walked_again.ensures ∙ c.if-walked_again.true))

pub returns-then-walked_again : goal.returns-then-walked_again
unfolding view_of pose_at
returns-then-walked_again c = rw (sym c.walked_again.ensures ∙ c.if-walked_again.true) c.get_vec.ensures

pub returns : goal.returns
unfolding view_of pose_at
returns c = rw (sym c.walked_again.ensures ∙ c.if-walked_again.false) c.get_vec-2.ensures
