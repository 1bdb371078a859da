-- `empty_party` meets its contract.
use mathlib.Core.Path.{refl}
use Rattle.state_calls.specs.State.{empty_party}
use Rattle.state_calls.proofs.state.empty_party.Goals as goal

pub returns : goal.returns
unfolding empty_party
returns c = refl
