-- `load` meets its contract: an accepted sheet fits the arrays.
use mathlib.Core.Path.{sym}
use native.Mathlib.Omega.{arith}
use Rattle.refusals.specs.Passed.{load-passed}
use Rattle.state_calls.proofs.load.load.Goals as goal

pub stored-requires : goal.stored-requires
stored-requires c =
    let p = load-passed _ _ _ _ (sym c.in_ok-load_refusal.ensures) in
    (omega (arith, p.0.sized), omega (arith, p.0), omega (arith, p.0), omega (arith, p))
