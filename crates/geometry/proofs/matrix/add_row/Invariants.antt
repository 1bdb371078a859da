-- `add_row` meets its contract. In the columns before `s` row `r` has gained.
use Rattle.geometry.specs.Matrix.{in_row, added_of}
use Rattle.geometry.proofs.Tables.{Rewritten, by_column}
use Rattle.geometry.proofs.matrix.add_row.Given as goal

abbrev pub invariant-loop-s : goal.invariant-loop-s
invariant-loop-s l = Rewritten by_column (in_row l.initial.m l.r (added_of l.initial.m l.j l.c l.r)) l.initial.m l.s l.m
