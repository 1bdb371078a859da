-- `shape::bad_codes` meets its contract. The loop carries the answer for the links passed.
use mathlib.Core.Path.{◌≡◌}
use Rattle.refusals.specs.Range.{every}
use Rattle.refusals.specs.Refusal.{listed_at}
use Rattle.refusals.proofs.shape.bad_codes.Given as goal

abbrev pub invariant-loop-code : goal.invariant-loop-code
invariant-loop-code l = l.ok ≡ every (listed_at l.codes) l.code-index
