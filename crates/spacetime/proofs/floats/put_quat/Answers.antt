-- `put_quat` meets its contract: a store for each float.
use Rattle.lists.specs.Splice.{splice-four}
use Rattle.spacetime.specs.Floats.{flat_quat}
use Rattle.spacetime.proofs.floats.put_quat.Goals as goal

pub returns : goal.returns
unfolding flat_quat
returns c = splice-four _ _ _ _ _ _ c.requires
