-- `lent::block_fits` meets its contract. The loop carries the answer for the links passed, and the place of the next joint.
use mathlib.Core.Path.{◌≡◌}
use Prim.Native.Nat.{◌+◌, ◌≤◌}
use lib.ListN.{length}
use Rattle.sheet.specs.Chain.{joint_of}
use Rattle.refusals.specs.Range.{every}
use Rattle.refusals.specs.Refusal.{link_value_fits}
use Rattle.refusals.proofs.lent.block_fits.Given as goal

abbrev pub invariant-loop-l : goal.invariant-loop-l
invariant-loop-l l = (l.l ≤ length l.codes) × (l.ok ≡ every (link_value_fits l.codes l.block 0) l.l) × (l.j ≡ 0 + joint_of l.codes l.l)
