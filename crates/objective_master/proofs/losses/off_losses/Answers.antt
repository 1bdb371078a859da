-- `off_losses` meets its contract.
use Rattle.spacetime.specs.Floats.{flat_vec}
use Rattle.objective_master.specs.Losses.{off_losses, off_loss, component_of}
use Rattle.objective_master.proofs.losses.off_losses.Goals as goal

pub returns : goal.returns
unfolding flat_vec off_losses off_loss component_of
returns c = rw (c.match_ee_posi_dof-3.ensures, c.tolerance-3.ensures, c.match_ee_posi_dof-2.ensures, c.tolerance-2.ensures, c.match_ee_posi_dof.ensures, c.tolerance.ensures, c.off_goal-v.ensures)
