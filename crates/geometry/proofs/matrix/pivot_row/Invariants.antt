-- `pivot_row` meets its contract. The loop keeps the row of the largest entry so far.
use mathlib.Core.Path.{◌≡◌}
use Prim.Native.Nat.{◌-◌, ◌<◌}
use Rattle.geometry.specs.Matrix.{largest_of}
use Rattle.geometry.proofs.matrix.pivot_row.Given as goal

abbrev pub invariant-loop-i : goal.invariant-loop-i
invariant-loop-i l = (l.p < 6) × (l.p ≡ largest_of l.m l.k (l.i - l.k - 1))
