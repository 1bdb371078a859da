-- `put_vec` meets its contract: a store for each float.
use Rattle.lists.specs.Splice.{splice-three}
use Rattle.spacetime.specs.Floats.{flat_vec}
use Rattle.spacetime.proofs.floats.put_vec.Goals as goal

pub returns : goal.returns
unfolding flat_vec
returns c = splice-three _ _ _ _ _ c.requires
