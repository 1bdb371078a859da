-- `extended` meets its contract: by what its call ensures, where the link telescopes.
use mathlib.Core.Logic.{inl, inr}
use Rattle.spacetime.specs.Link.{extended_of}
use Rattle.spacetime.proofs.arm.extended.Goals as goal

pub returns-in-Telescoping : goal.returns-in-Telescoping
unfolding extended_of
returns-in-Telescoping c = rw c.in-Telescoping.is c.telescoped.ensures

pub returns-in-Turning : goal.returns-in-Turning
unfolding extended_of
returns-in-Turning c = elim c.in-Turning.is [ inl e ↦ rw e.1 | inr f ↦ elim f [ inl e ↦ rw e.1 | inr g ↦ elim g [ inl e ↦ rw e | inr e ↦ rw e ] ] ]
