-- `set_tool` meets its contract: by what its calls ensure.
use Rattle.replay_calls.specs.Arms.{set_tool_agrees}
use Rattle.replay_calls.proofs.arm_cases.set_tool.Goals as goal

pub returns : goal.returns
unfolding set_tool_agrees
returns c = cc
