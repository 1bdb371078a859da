-- `exp_series` meets its contract: what is left of the loop makes the whole of what is reached.
use mathlib.Core.Path.{◌≡◌}
use Prim.Native.Nat.{◌-◌}
use Rattle.standins.specs.Series.{down_from, exp_term_of, exp_series_of}
use Rattle.standins.proofs.series.exp_series.Given as goal

abbrev pub invariant-loop-n : goal.invariant-loop-n
invariant-loop-n l = down_from (exp_term_of l.z) (l.n - 1) l.e ≡ exp_series_of l.z
