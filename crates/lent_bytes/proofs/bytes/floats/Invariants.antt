-- `floats` meets its contract: turn after turn one float more.
use mathlib.Core.Path.{◌≡◌}
use lib.ListN.{take}
use Rattle.lists.specs.Listed.{listed}
use Rattle.lent_bytes.specs.Bytes.{float_at}
use Rattle.lent_bytes.proofs.bytes.floats.Given as goal

abbrev pub invariant-loop-i : goal.invariant-loop-i
invariant-loop-i l = take l.i l.out ≡ listed (float_at l.b) l.i
