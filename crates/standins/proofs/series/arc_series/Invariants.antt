-- `arc_series` meets its contract: what is left of the loop makes the whole of what is reached.
use mathlib.Core.Path.{◌≡◌}
use Prim.Native.Nat.{◌-◌}
use Rattle.standins.specs.Num.{◌⊗◌}
use Rattle.standins.specs.Series.{down_from, arc_term_of, arc_series_of}
use Rattle.standins.proofs.series.arc_series.Given as goal

abbrev pub invariant-loop-n : goal.invariant-loop-n
invariant-loop-n l = down_from (arc_term_of (l.r ⊗ l.r)) (l.n - 1) l.s ≡ arc_series_of l.r
