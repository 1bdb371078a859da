-- `match_ee_rota_dof` meets its contract: its loss, evaluated.
use Rattle.groove.specs.Loss.{match_ee_rota_dof}
use Rattle.groove.proofs.objective.match_ee_rota_dof.Goals as goal

pub returns : goal.returns
unfolding match_ee_rota_dof
returns c = rw (c.evaluate.ensures, c.rotation_loss.ensures)
