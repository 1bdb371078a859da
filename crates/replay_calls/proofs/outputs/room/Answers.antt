-- `room` meets its contract: by what its call ensures.
use mathlib.Core.Path.{ap}
use lib.ListN.{length}
use Rattle.replay_calls.proofs.outputs.room.Goals as goal

pub returns : goal.returns
returns c = (ap length c.list-stored.ensures.0, c.list-stored.ensures.1)
