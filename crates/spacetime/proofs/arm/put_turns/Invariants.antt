-- `put_turns` meets its contract: turn after turn one joint more.
use mathlib.Core.Path.{◌≡◌}
use Rattle.lists.specs.Splice.{splice}
use Rattle.sheet.specs.Chain.{joint_of}
use Rattle.spacetime.specs.Turns.{quats_of, turn_at}
use Rattle.spacetime.proofs.arm.put_turns.Given as goal

abbrev pub invariant-loop-at : goal.invariant-loop-at
invariant-loop-at v = (v.joint ≡ joint_of v.codes v.at) × (v.turns ≡ splice v.initial.turns 0 (quats_of (λ l. turn_at v.codes v.block l (joint_of v.codes l)) v.at))
