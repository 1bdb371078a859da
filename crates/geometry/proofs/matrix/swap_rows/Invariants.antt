-- `swap_rows` meets its contract. The loop has swapped the columns before `c`.
use Rattle.geometry.proofs.Tables.{Rewritten, by_column}
use Rattle.geometry.proofs.Steps.{swapped}
use Rattle.geometry.proofs.matrix.swap_rows.Given as goal

abbrev pub invariant-loop-c : goal.invariant-loop-c
invariant-loop-c l = Rewritten by_column (swapped l.initial.m l.k l.p) l.initial.m l.c l.m
