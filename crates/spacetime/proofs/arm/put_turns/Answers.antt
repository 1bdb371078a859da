use mathlib.Core.Path.{◌≡◌, sym, ap, ◌∙◌}
use Prim.Native.Nat.{ℕ, ◌+◌}
use native.Mathlib.Omega.{arith}
use lib.ListN.{length, get_or}
use Rattle.geometry.specs.declared.quaternion.Quat.{Quat}
use Rattle.lists.specs.Splice.{splice}
use Rattle.sheet.specs.Chain.{joints_of, joint_of, joint-zero, joint-more, joint-mono, joint-last, joint-le}
use Rattle.spacetime.specs.Turns.{quats_of, quats-none, quats-turn, turn_at, turns_of}
use Rattle.spacetime.proofs.arm.put_turns.Goals as goal

pub loop-at-init : goal.loop-at-init
loop-at-init c = (sym (joint-zero _), quats-none _ _)

pub value-v-requires : goal.value-v-requires
value-v-requires c =
    let cs = c.args.codes.now in
    let k = c.loop-at.at in
    (omega arith, omega (arith, joint-more cs k, joint-mono cs (k + 1) (length cs) (omega arith), joint-last cs))

pub next_joint-joint-requires : goal.next_joint-joint-requires
next_joint-joint-requires c = (omega arith, omega (arith, joint-le c.args.codes.now c.loop-at.at))

pub loop-at-preserved : goal.loop-at-preserved
unfolding turn_at
loop-at-preserved c =
    let made : c.joint_turn-t.result ≡ turn_at c.args.codes.now c.args.block.now c.loop-at.at c.loop-at.joint = cc in
    let cs = c.args.codes.now in
    let x = c.args.block.now in
    let k = c.loop-at.at in
    let turn : ℕ → Quat = λ l. turn_at cs x l (joint_of cs l) in (
      c.next_joint-joint.ensures ∙ ap (λ (j : ℕ). j + joints_of (get_or cs k 0)) c.loop-at.invariant.0 ∙ sym (joint-more cs k),
      quats-turn turn c.args.turns.now c.loop-at.turns _ k c.joint_turn-t.result c.loop-at.invariant.1 (omega arith)
          (made ∙ ap (turn_at cs x k) c.loop-at.invariant.0) c.put_quat.ensures,
    )

pub returns : goal.returns
unfolding turns_of
returns c =
    let e : c.loop-at.at ≡ length c.args.codes.now = omega arith in
    c.loop-at.invariant.1 ∙ ap (λ (n : ℕ). splice c.args.turns.now 0 (quats_of (λ l. turn_at c.args.codes.now c.args.block.now l (joint_of c.args.codes.now l)) n)) e
