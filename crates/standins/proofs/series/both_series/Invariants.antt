-- `both_series` meets its contract: each series of the reduced angle goes by the one law of a loop that counts down.
use mathlib.Core.Path.{◌≡◌}
use Prim.Native.Nat.{◌-◌}
use Rattle.standins.specs.Series.{down_from, term_of, series_of, sine_divisor, cosine_divisor}
use Rattle.standins.proofs.series.both_series.Given as goal

abbrev pub invariant-loop-n : goal.invariant-loop-n
invariant-loop-n l = (down_from (term_of sine_divisor l.q) (l.n - 1) l.s ≡ series_of sine_divisor l.q) × (down_from (term_of cosine_divisor l.q) (l.n - 1) l.c ≡ series_of cosine_divisor l.q)
