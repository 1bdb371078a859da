-- `after_turn` meets its contract: by what its calls ensure.
use Rattle.spacetime.specs.Turns.{after_turn}
use Rattle.spacetime.proofs.arm.after_turn.Goals as goal

pub returns : goal.returns
unfolding after_turn
returns c = cc
