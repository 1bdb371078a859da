-- `gram` meets its contract. The entries are the sums over the columns before `c`.
use mathlib.Core.Path.{◌≡◌}
use Rattle.geometry.specs.Matrix.{matrix_of}
use Rattle.geometry.proofs.Sums.{sums}
use Rattle.geometry.proofs.matrix.gram.Given as goal

abbrev pub invariant-loop-c : goal.invariant-loop-c
invariant-loop-c l = l.m ≡ matrix_of (sums l.j l.c)
