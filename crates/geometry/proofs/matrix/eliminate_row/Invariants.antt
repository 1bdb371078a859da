-- `eliminate_row` meets its contract. In the columns before `c` row `i` has lost.
use Rattle.geometry.specs.Matrix.{in_row, eliminated_of}
use Rattle.geometry.proofs.Tables.{Rewritten, by_column}
use Rattle.geometry.proofs.matrix.eliminate_row.Given as goal

abbrev pub invariant-loop-c : goal.invariant-loop-c
invariant-loop-c l = Rewritten by_column (in_row l.initial.m l.i (eliminated_of l.initial.m l.k l.i)) l.initial.m l.c l.m
