-- `add_column` meets its contract. The rows before `r` have gained.
use Rattle.geometry.specs.Matrix.{added_of}
use Rattle.geometry.proofs.Tables.{Rewritten, by_row}
use Rattle.geometry.proofs.matrix.add_column.Given as goal

abbrev pub invariant-loop-r : goal.invariant-loop-r
invariant-loop-r l = Rewritten by_row (added_of l.initial.m l.j l.c) l.initial.m l.r l.m
