-- `carried` meets its contract: by what its two calls ensure.
use Rattle.spacetime.specs.Link.{carried_of}
use Rattle.spacetime.proofs.arm.carried.Goals as goal

pub returns : goal.returns
unfolding carried_of
returns c = cc
