-- `vec` meets its contract: its components in a row.
use Rattle.spacetime.specs.Floats.{flat_vec}
use Rattle.replay.proofs.leaf_cases.vec.Goals as goal

pub returns : goal.returns
unfolding flat_vec
returns c = c.floats.ensures
