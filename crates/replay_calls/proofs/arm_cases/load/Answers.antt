-- `load` meets its contract: by what its calls ensure.
use Rattle.replay_calls.specs.Arms.{load_agrees}
use Rattle.replay_calls.proofs.arm_cases.load.Goals as goal

pub returns : goal.returns
unfolding load_agrees
returns c = cc
