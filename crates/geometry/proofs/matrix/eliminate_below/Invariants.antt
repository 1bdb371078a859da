-- `eliminate_below` meets its contract. The rows from `k + 1` to before `i` have lost.
use Rattle.geometry.proofs.Tables.{Rewritten, by_row}
use Rattle.geometry.proofs.Steps.{lost}
use Rattle.geometry.proofs.matrix.eliminate_below.Given as goal

abbrev pub invariant-loop-i : goal.invariant-loop-i
invariant-loop-i l = Rewritten by_row (lost l.initial.m l.k) l.initial.m l.i l.m
