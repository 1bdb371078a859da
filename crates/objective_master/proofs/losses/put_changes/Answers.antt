-- `put_changes` meets its contract: the three blocks are parts of the list.
use mathlib.Core.Path.{ap, ◌∙◌}
use Rattle.lists.specs.Splice.{splice}
use Rattle.spacetime.specs.Floats.{flat_vec}
use Rattle.objective_master.specs.Losses.{change_losses}
use Rattle.objective_master.proofs.losses.put_changes.Goals as goal

pub returns : goal.returns
unfolding flat_vec change_losses
returns c =
    let a = c.args in
    c.put_vec.ensures
    ∙ ap (splice a.out.now a.at)
    (rw (c.minimize_jerk.ensures, c.minimize_acceleration.ensures, c.minimize_velocity.ensures, c.joint_changes-v.ensures, c.prev_state2-prev_state2.ensures.0, c.prev_state-prev_state.ensures.0, c.xopt-xopt.ensures.0))
