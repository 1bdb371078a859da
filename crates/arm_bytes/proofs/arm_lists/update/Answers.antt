-- `update` meets its contract: the output is the bytes of the new block and of the first three.
use mathlib.Core.Path.{refl, sym, ap, ◌∙◌}
use mathlib.Core.List.{List}
use Prim.Native.Nat.{ℕ, ◌*◌}
use native.Mathlib.Omega.{arith}
use lib.ListN.{length, take}
use Rattle.lists.specs.Splice.{splice}
use lib.Seq.{length-take-le}
use Rattle.calls.specs.Arms.{taken}
use Rattle.lent_bytes.specs.Lent.{bytes_of, bytes-then}
use Rattle.arm_bytes.specs.ArmCalls.{updated_blocks}
use Rattle.arm_bytes.specs.ArmLaws.{update-fits}
use Rattle.arm_bytes.proofs.arm_lists.update.Goals as goal

pub slice_bounds-put_floats-end : goal.slice_bounds-put_floats-end
slice_bounds-put_floats-end c =
    let l = update-fits _ _ _ _ _ _ _ (length c.args.out.now) _ (sym c.in_ok-load_refusal.ensures) (sym c.in_ok-block_refusal.ensures) (sym c.in_ok-history_refusal.ensures)
    c.history_length.ensures c.room.ensures (sym c.in_ok-room_refusal.ensures) in
    sym (length-take-le (3 * length c.args.joints.now) c.args.history.now (omega (arith, l)))

pub put_floats-requires-2 : goal.put_floats-requires-2
put_floats-requires-2 c =
    let l = update-fits _ _ _ _ _ _ _ (length c.args.out.now) _ (sym c.in_ok-load_refusal.ensures) (sym c.in_ok-block_refusal.ensures) (sym c.in_ok-history_refusal.ensures)
    c.history_length.ensures c.room.ensures (sym c.in_ok-room_refusal.ensures) in
    let kept = length-take-le (3 * length c.args.joints.now) c.args.history.now (omega (arith, l)) in
    omega (arith, l, kept, c.put_floats.auto.out)

pub returns-clause-new_history : goal.returns-clause-new_history
unfolding updated_blocks
returns-clause-new_history c =
    let l = update-fits _ _ _ _ _ _ _ (length c.args.out.now) _ (sym c.in_ok-load_refusal.ensures) (sym c.in_ok-block_refusal.ensures) (sym c.in_ok-history_refusal.ensures)
    c.history_length.ensures c.room.ensures (sym c.in_ok-room_refusal.ensures) in
    let a = c.args in
    let n = length a.joints.now in
    let o = a.out.now in
    let x = a.joints.now in
    let h = a.history.now in
    c.put_floats-2.ensures ∙ ap (λ (y : List ℕ). splice y (8 * n) (bytes_of (take (3 * n) h))) c.put_floats.ensures
    ∙ bytes-then o x (take (3 * n) h) (8 * n) (omega (arith, l)) (omega (arith, l))
    ∙ sym (taken 0 _ _ refl)
