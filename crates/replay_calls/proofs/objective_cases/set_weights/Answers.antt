-- `set_weights` meets its contract: by what its calls ensure.
use Rattle.replay_calls.specs.Objectives.{set_weights_agrees}
use Rattle.replay_calls.proofs.objective_cases.set_weights.Goals as goal

pub returns : goal.returns
unfolding set_weights_agrees
returns c = cc
