-- `weight_priors` meets its contract.
use mathlib.Core.Path.{refl}
use Rattle.objective_master.specs.Weights.{weight_priors}
use Rattle.objective_master.proofs.weights.weight_priors.Goals as goal

pub returns : goal.returns
unfolding weight_priors
returns c = refl
