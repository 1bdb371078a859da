-- `load::floats_refusal` meets its contract. The loop carries the answer for the links passed.
use mathlib.Core.Path.{◌≡◌}
use Rattle.refusals.specs.Range.{every}
use Rattle.refusals.specs.Refusal.{link_fits}
use Rattle.refusals.proofs.load.floats_refusal.Given as goal

abbrev pub invariant-loop-l : goal.invariant-loop-l
invariant-loop-l l = l.ok ≡ every (link_fits l.floats) l.l
