-- `in_force` meets its contract: by whether a list is loaded.
use Rattle.objective_master.specs.Weights.{in_force}
use Rattle.objective_master.proofs.weights.in_force.Goals as goal

pub returns-then-loaded : goal.returns-then-loaded
unfolding in_force
returns-then-loaded c = rw c.if-loaded.true

pub returns : goal.returns
unfolding in_force
returns c = rw c.if-loaded.false c.weight_priors.ensures
