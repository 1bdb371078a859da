-- `any_six` meets its contract. The loop carries the answer for the chains passed, the next link and its joint.
use mathlib.Core.Path.{◌≡◌}
use Rattle.sheet.specs.Chain.{chain_start, joint_of}
use Rattle.refusals.specs.Range.{every}
use Rattle.calls.specs.Six.{under_six}
use Rattle.calls.proofs.measure.any_six.Given as goal

abbrev pub invariant-loop-n : goal.invariant-loop-n
invariant-loop-n l = (l.under ≡ every (under_six l.counts l.codes) l.n-index) × (l.link ≡ chain_start l.counts l.n-index) × (l.joint ≡ joint_of l.codes (chain_start l.counts l.n-index))
