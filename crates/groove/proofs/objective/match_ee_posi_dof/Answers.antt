-- `match_ee_posi_dof` meets its contract: its loss, evaluated.
use Rattle.groove.specs.Loss.{match_ee_posi_dof}
use Rattle.groove.proofs.objective.match_ee_posi_dof.Goals as goal

pub returns : goal.returns
unfolding match_ee_posi_dof
returns c = rw (c.evaluate.ensures, c.position_loss.ensures)
