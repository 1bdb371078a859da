-- `update` meets its contract: a block that is taken fits.
use mathlib.Core.Path.{sym, ap}
use native.Mathlib.Omega.{arith}
use Rattle.sheet.specs.Chain.{joints}
use Rattle.refusals.specs.Passed.{shape-passed, block-passed}
use Rattle.state_calls.specs.State.{stored}
use Rattle.state_calls.proofs.party.update.Goals as goal

pub padded16-requires : goal.padded16-requires
padded16-requires c =
    let sheet = c.in_ok-sheet.ensures.sheet in
    omega (arith, block-passed _ c.args.joints.now (sym c.in_ok-block_refusal.ensures), ap joints sheet.codes, (shape-passed _ _ _ (stored _ _ sheet.have).shape).moving)
