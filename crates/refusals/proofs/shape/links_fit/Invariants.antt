-- `shape::links_fit` meets its contract. The loop carries the answer for the chains passed.
use mathlib.Core.Path.{◌≡◌}
use Rattle.refusals.specs.Range.{every}
use Rattle.refusals.specs.Refusal.{links_fit}
use Rattle.refusals.proofs.shape.links_fit.Given as goal

abbrev pub invariant-loop-n : goal.invariant-loop-n
invariant-loop-n l = l.ok ≡ every (links_fit l.counts) l.n-index
