-- `empty` meets its contract: by what `empty_party` ensures.
use mathlib.Core.Path.{ap}
use Rattle.state_calls.specs.declared.state.Party.{Party}
use Rattle.state_calls.specs.State.{empty_arms, no_weights, empty_state}
use Rattle.state_calls.proofs.state.empty.Goals as goal

pub returns : goal.returns
unfolding empty_state empty_arms no_weights
returns c = ap (λ (p : Party). record { arms = empty_arms; weights = no_weights; party = p }) c.empty_party.ensures
