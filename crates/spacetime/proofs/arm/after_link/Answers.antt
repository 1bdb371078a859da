-- `after_link` meets its contract: by what its calls ensure.
use Rattle.spacetime.specs.Walk.{after_link}
use Rattle.spacetime.proofs.arm.after_link.Goals as goal

pub returns : goal.returns
unfolding after_link
returns c = cc
