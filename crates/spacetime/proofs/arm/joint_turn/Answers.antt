-- `joint_turn` meets its contract: by what its calls ensure.
use mathlib.Core.Logic.{inl, inr}
use Rattle.spacetime.specs.Link.{joint_turn}
use Rattle.spacetime.proofs.arm.joint_turn.Goals as goal

pub returns-in-Turning : goal.returns-in-Turning
unfolding joint_turn
returns-in-Turning c = rw c.in-Turning.is c.turn.ensures

pub returns-in-Sliding : goal.returns-in-Sliding
unfolding joint_turn
returns-in-Sliding c = elim c.in-Sliding.is [ inl e ↦ rw e.1 c.identity.ensures | inr f ↦ elim f [ inl e ↦ rw e.1 c.identity.ensures | inr g ↦ elim g [ inl e ↦ rw e c.identity.ensures | inr e ↦ rw e c.identity.ensures ] ] ]
