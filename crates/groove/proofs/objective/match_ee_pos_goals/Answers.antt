-- `match_ee_pos_goals` meets its contract: its loss, evaluated.
use Rattle.groove.specs.Loss.{match_ee_pos_goals}
use Rattle.groove.proofs.objective.match_ee_pos_goals.Goals as goal

pub returns : goal.returns
unfolding match_ee_pos_goals
returns c = rw (c.evaluate.ensures, c.strict_loss.ensures)
