-- `set_goals` meets its contract: goals that are taken fit.
use mathlib.Core.Path.{sym}
use native.Mathlib.Omega.{arith}
use Rattle.refusals.specs.Passed.{goals-passed}
use Rattle.state_calls.specs.State.{stored}
use Rattle.state_calls.proofs.party.set_goals.Goals as goal

pub copy-requires : goal.copy-requires
copy-requires c =
    let sheet = c.in_ok-sheet.ensures.sheet in
    omega (arith, goals-passed _ c.args.goals.now (sym c.in_ok-goals_refusal.ensures), sheet.chains, (stored _ _ sheet.have).few)
