-- `set_goals` meets its contract: by what its calls ensure.
use Rattle.replay_calls.specs.Arms.{set_goals_agrees}
use Rattle.replay_calls.proofs.arm_cases.set_goals.Goals as goal

pub returns : goal.returns
unfolding set_goals_agrees
returns c = cc
