use mathlib.Core.Path.{◌≡◌, ap, ◌∙◌}
use mathlib.Core.List.{List}
use Prim.Native.Nat.{ℕ, ◌*◌, ◌≤◌}
use native.Mathlib.Omega.{arith}
use lib.Ieee.{Float}
use lib.ListN.{length}
use Rattle.lists.specs.Splice.{splice}
use Rattle.sheet.specs.Chain.{first-zero}
use Rattle.spacetime.specs.Floats.{quat_at}
use Rattle.spacetime.specs.Turns.{quats_of, quats-none, quats-turn, quats-ahead, rotation_by, rotations_by, met-zero, met-more, rotation-made}
use Rattle.spacetime.proofs.arm.walk_rotations.Goals as goal

pub loop-at-init : goal.loop-at-init
loop-at-init c = (met-zero _ _ _ _ _ (first-zero _), quats-none _ _)

pub loop-at-preserved : goal.loop-at-preserved
loop-at-preserved c =
    let ns = c.args.counts.now in
    let cs = c.args.codes.now in
    let gs = c.args.floats.now in
    let ts = c.args.turns.now in
    let k = c.loop-at.at in
    let fits : 4 * k ≤ length ts = omega (arith, c.requires) in
    let t : c.get_quat-t.result ≡ quat_at ts (4 * k) =
    c.get_quat-t.ensures ∙ ap (λ (z : List Float). quat_at z (4 * k)) c.loop-at.invariant.1 ∙ quats-ahead (rotation_by ns cs gs ts) ts k k fits (omega arith) in
    let made : c.after_turn-q.result ≡ rotation_by ns cs gs ts k =
    rotation-made ns cs gs ts k c.loop-at.q c.start_rotation.result c.get_quat-t.result c.after_turn-q.result c.loop-at.invariant.0 c.start_rotation.ensures t c.after_turn-q.ensures in (
      met-more ns cs gs ts k c.after_turn-q.result made,
      quats-turn (rotation_by ns cs gs ts) ts c.loop-at.turns _ k c.after_turn-q.result c.loop-at.invariant.1 fits made c.put_quat.ensures,
    )

pub returns : goal.returns
unfolding rotations_by
returns c =
    let e : c.loop-at.at ≡ length c.args.codes.now = omega arith in
    c.loop-at.invariant.1 ∙ ap (λ (n : ℕ). splice c.args.turns.now 0 (quats_of (rotation_by c.args.counts.now c.args.codes.now c.args.floats.now c.args.turns.now) n)) e
