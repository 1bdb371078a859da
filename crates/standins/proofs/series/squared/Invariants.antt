-- `squared` meets its contract: what is left of the loop makes the whole of what is reached.
use mathlib.Core.Path.{◌≡◌}
use Prim.Native.Nat.{◌-◌}
use Rattle.standins.specs.Series.{squarings}
use Rattle.standins.proofs.series.squared.Given as goal

abbrev pub invariant-loop : goal.invariant-loop
invariant-loop l = squarings (l.times - l.counter) l.e ≡ squarings l.times l.a
