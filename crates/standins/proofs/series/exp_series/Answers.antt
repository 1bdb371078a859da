use mathlib.Core.Path.{refl}
use Prim.Native.Nat.{◌-◌}
use native.Mathlib.Omega.{arith}
use Rattle.standins.specs.Series.{exp_term_of, exp_series_of, down_turn, down-done}
use Rattle.standins.proofs.series.exp_series.Goals as goal

pub loop-n-init : goal.loop-n-init
unfolding exp_series_of
loop-n-init c = refl

pub loop-n-preserved : goal.loop-n-preserved
unfolding exp_term_of
loop-n-preserved c = down_turn (exp_term_of _) (c.loop-n.n - 1) c.loop-n.e _ (omega arith) c.loop-n.invariant

pub returns : goal.returns
returns c = down-done (exp_term_of _) (c.loop-n.n - 1) _ _ (omega arith) c.loop-n.invariant
