-- `lay` meets its contract: the writings, one after the other.
use Rattle.task.specs.Laid.{laid}
use Rattle.task.proofs.lay.lay.Goals as goal

pub returns : goal.returns
unfolding laid
returns c = cc
