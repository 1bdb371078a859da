-- `pos_goals_loss` meets its contract: by what its three calls ensure.
use Rattle.objective_master.specs.Strict.{distance_from, pos_goals_loss}
use Rattle.objective_master.proofs.strict.pos_goals_loss.Goals as goal

pub returns : goal.returns
unfolding pos_goals_loss distance_from
returns c = rw (c.match_ee_pos_goals.ensures, c.norm.ensures, c.sub.ensures)
