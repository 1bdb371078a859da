-- `is_raised` meets its contract.
use Rattle.objective_master.specs.Cached.{is_raised}
use Rattle.objective_master.proofs.losses.is_raised.Goals as goal

pub returns-in-Some : goal.returns-in-Some
unfolding is_raised
returns-in-Some c = rw c.in-Some.is

pub returns-in-None : goal.returns-in-None
unfolding is_raised
returns-in-None c = rw c.in-None.is
