-- `buffer` meets its contract: each byte is the one that it is filled with.
use mathlib.Core.Path.{refl}
use Rattle.stored_answers.specs.Agree.{fill}
use Rattle.replay_calls.proofs.outputs.buffer.Goals as goal

pub returns : goal.returns
unfolding fill
returns c = (refl, refl)
