-- `range::all_within` meets its contract. The loop carries the answer for the floats passed.
use mathlib.Core.Path.{◌≡◌}
use Rattle.refusals.specs.Range.{every, within_at}
use Rattle.refusals.proofs.range.all_within.Given as goal

abbrev pub invariant-loop-v : goal.invariant-loop-v
invariant-loop-v l = l.ok ≡ every (within_at l.bound l.list 0) l.v-index
