-- `root::by_digits` meets its contract. The invariant is `Turn`.
use Rattle.root.proofs.Turn.{Turn}
use Rattle.root.proofs.by_digits.Given as goal

abbrev pub invariant-loop-k : goal.invariant-loop-k
invariant-loop-k l = Turn l.a l.k l.q l.y
