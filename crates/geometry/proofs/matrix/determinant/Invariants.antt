-- `determinant` meets its contract. The loop keeps that the steps that are left give the determinant of the matrix that came.
use mathlib.Core.Path.{◌≡◌}
use Prim.Native.Nat.{◌-◌, ◌≤◌}
use Rattle.geometry.specs.Matrix.{determinant_of, steps_of}
use Rattle.geometry.proofs.matrix.determinant.Given as goal

abbrev pub invariant-loop-k : goal.invariant-loop-k
invariant-loop-k l = (l.swaps ≤ l.k) × (steps_of l.a l.swaps l.k (6 - l.k) ≡ determinant_of l.initial.a)
