-- `decode` meets its contract: turn after turn one element more.
use mathlib.Core.Path.{◌≡◌}
use lib.ListN.{take}
use Rattle.lists.specs.Listed.{listed}
use Rattle.lent_bytes.specs.Lent.{element_at}
use Rattle.lent_bytes.proofs.lent.decode.Given as goal

abbrev pub invariant-loop-i : goal.invariant-loop-i
invariant-loop-i g l = take l.i l.x-items ≡ listed (element_at g.T.Element.read g.row.N l.fn.b) l.i
