-- `get` meets its contract: by what its two calls ensure.
use Rattle.spacetime.specs.Floats.{pose_at}
use Rattle.spacetime.proofs.floats.get.Goals as goal

pub returns : goal.returns
unfolding pose_at
returns c = cc
