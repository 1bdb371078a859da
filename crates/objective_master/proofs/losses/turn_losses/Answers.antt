-- `turn_losses` meets its contract.
use Rattle.spacetime.specs.Floats.{flat_vec}
use Rattle.objective_master.specs.Losses.{turn_losses, turn_loss, component_of}
use Rattle.objective_master.proofs.losses.turn_losses.Goals as goal

pub returns : goal.returns
unfolding flat_vec turn_losses turn_loss component_of
returns c =
    rw (
      c.match_ee_rota_dof-3.ensures,
      c.tolerance-3.ensures,
      c.abs-3.ensures,
      c.match_ee_rota_dof-2.ensures,
      c.tolerance-2.ensures,
      c.abs-2.ensures,
      c.match_ee_rota_dof.ensures,
      c.tolerance.ensures,
      c.abs.ensures,
      c.turn_from_goal-v.ensures,
    )
