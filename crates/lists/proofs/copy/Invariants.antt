-- `copy` meets its contract: turn after turn one element more.
use Rattle.std.proofs.Common.{◌≡◌, take}
use Rattle.lists.specs.Splice.{splice}
use Rattle.lists.proofs.copy.Given as goal

abbrev pub invariant-loop-i : goal.invariant-loop-i
invariant-loop-i g l = l.dst ≡ splice l.initial.dst 0 (take l.i l.src)
