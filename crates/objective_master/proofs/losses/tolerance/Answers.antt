-- `tolerance` meets its contract.
use mathlib.Core.Path.{refl}
use Rattle.objective_master.specs.Losses.{tolerance_at}
use Rattle.objective_master.proofs.losses.tolerance.Goals as goal

pub returns : goal.returns
unfolding tolerance_at
returns c = refl
