-- `moved` meets its contract: by what its calls ensure.
use mathlib.Core.Logic.{inl, inr}
use Rattle.spacetime.specs.Link.{moved_of}
use Rattle.spacetime.proofs.arm.moved.Goals as goal

pub returns-in-Sliding : goal.returns-in-Sliding
unfolding moved_of
returns-in-Sliding c = rw (c.in-Sliding.is, ← c.carried-c.ensures) c.slid.ensures

pub returns-in-Turning : goal.returns-in-Turning
unfolding moved_of
returns-in-Turning c = elim c.in-Turning.is [ inl e ↦ rw e.1 c.carried-c.ensures | inr f ↦ elim f [ inl e ↦ rw e.1 c.carried-c.ensures | inr g ↦ elim g [ inl e ↦ rw e c.carried-c.ensures | inr e ↦ rw e c.carried-c.ensures ] ] ]
