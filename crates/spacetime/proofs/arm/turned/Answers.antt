-- `turned` meets its contract: by what its call ensures, where the link turns.
use mathlib.Core.Logic.{inl, inr}
use Rattle.spacetime.specs.Link.{turned_by}
use Rattle.spacetime.proofs.arm.turned.Goals as goal

pub returns-in-Turning : goal.returns-in-Turning
unfolding turned_by
returns-in-Turning c = rw c.in-Turning.is c.about.ensures

pub returns-in-Sliding : goal.returns-in-Sliding
unfolding turned_by
returns-in-Sliding c = elim c.in-Sliding.is [ inl e ↦ rw e.1 | inr f ↦ elim f [ inl e ↦ rw e.1 | inr g ↦ elim g [ inl e ↦ rw e | inr e ↦ rw e ] ] ]
