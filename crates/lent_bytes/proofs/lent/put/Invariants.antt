-- `put` meets its contract: turn after turn the bytes of one element more.
use mathlib.Core.Path.{◌≡◌}
use lib.ListN.{take}
use Rattle.lists.specs.Splice.{splice}
use Rattle.lent_bytes.specs.Lent.{bytes_of_each}
use Rattle.lent_bytes.proofs.lent.put.Given as goal

abbrev pub invariant-loop-i : goal.invariant-loop-i
invariant-loop-i g l = l.out ≡ splice l.initial.out l.at (bytes_of_each g.T.Element.bytes (take l.i l.src))
