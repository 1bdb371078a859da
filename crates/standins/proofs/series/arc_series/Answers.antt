use mathlib.Core.Path.{refl}
use Prim.Native.Nat.{◌-◌}
use native.Mathlib.Omega.{arith}
use lib.Ieee.{of_int, of_bits}
use Rattle.standins.specs.Series.{arc_term_of, arc_series_of, down_turn, down-done}
use Rattle.standins.proofs.series.arc_series.Goals as goal

pub loop-n-init : goal.loop-n-init
unfolding arc_series_of of_int of_bits
loop-n-init c = refl

pub loop-n-preserved : goal.loop-n-preserved
unfolding arc_term_of
loop-n-preserved c = down_turn (arc_term_of _) (c.loop-n.n - 1) c.loop-n.s _ (omega arith) c.loop-n.invariant

pub returns : goal.returns
returns c = down-done (arc_term_of _) (c.loop-n.n - 1) _ _ (omega arith) c.loop-n.invariant
