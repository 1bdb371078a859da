-- `value` meets its contract: a fixed link reads nothing.
use mathlib.Core.Path.{sym, ◌∙◌}
use native.Mathlib.Omega.{arith}
use Rattle.sheet.specs.Code.{joint-there}
use Rattle.sheet.specs.Chain.{joints-one}
use Rattle.spacetime.specs.Walk.{value_of}
use Rattle.spacetime.proofs.arm.value.Goals as goal

pub bounds-block-joint : goal.bounds-block-joint
bounds-block-joint c = omega (arith, joints-one _ (joint-there _ (sym c.has_joint_at.ensures ∙ c.if-has_joint_at.true)))

pub returns-then-has_joint_at : goal.returns-then-has_joint_at
unfolding value_of
returns-then-has_joint_at c = rw (sym c.has_joint_at.ensures ∙ c.if-has_joint_at.true)

pub returns-else-has_joint_at : goal.returns-else-has_joint_at
unfolding value_of
returns-else-has_joint_at c = rw (sym c.has_joint_at.ensures ∙ c.if-has_joint_at.false)
