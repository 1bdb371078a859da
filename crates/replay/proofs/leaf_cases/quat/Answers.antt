-- `quat` meets its contract: its components in a row.
use Rattle.spacetime.specs.Floats.{flat_quat}
use Rattle.replay.proofs.leaf_cases.quat.Goals as goal

pub returns : goal.returns
unfolding flat_quat
returns c = c.floats.ensures
