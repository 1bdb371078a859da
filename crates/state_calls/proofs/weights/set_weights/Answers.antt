-- `set_weights` meets its contract: a list that is taken fills the array.
use mathlib.Core.Path.{sym, ap, ◌∙◌}
use mathlib.Core.List.{List}
use native.Mathlib.Omega.{arith}
use lib.Ieee.{Float}
use Rattle.refusals.specs.Passed.{weights-passed}
use Rattle.state_calls.specs.Load.{outcome_of}
use Rattle.state_calls.specs.Weights.{with_weights, set_weights_of, list-filled}
use Rattle.state_calls.proofs.weights.set_weights.Goals as goal

pub copy-requires : goal.copy-requires
copy-requires c = omega (arith, weights-passed _ (sym c.in_ok-weights_refusal.ensures))

pub returns : goal.returns
unfolding set_weights_of outcome_of with_weights
returns c =
    let e = sym c.in_ok-weights_refusal.ensures in
    let l = c.copy.ensures ∙ list-filled _ (weights-passed _ e) in
    rw e (ap (λ (ws : List Float). record { number = 0; state = with_weights c.args.state ws }) l)
