-- `frames` meets its contract: the outputs are the bytes of the walk's lists.
use mathlib.Core.Path.{◌≡◌, refl, sym, ap, ◌∙◌}
use mathlib.Core.List.{List}
use native.Mathlib.Omega.{arith}
use lib.Ieee.{Float}
use lib.ListN.{length}
use Rattle.lists.specs.Splice.{splice}
use Rattle.calls.specs.Arms.{taken}
use Rattle.lent_bytes.specs.Lent.{bytes_of}
use Rattle.lent_bytes.specs.SheetLists.{sheet_with}
use Rattle.arm_bytes.specs.ArmLaws.{bytes_fit, positions-front, rotations-front}
use Rattle.arm_bytes.proofs.arm_lists.frames.Goals as goal

pub slice_bounds-p-end : goal.slice_bounds-p-end
slice_bounds-p-end c =
    let a = c.args in
    let long : length c.frames.new.positions ≡ 204 = c.frames.auto.positions in
    (positions-front (sheet_with a.sizes.now a.codes.now a.floats.now a.limits.now) _ a.joints.now _ _ _ c.in_ok-load_refusal.ensures c.links-counts.ensures
    c.positions_length-np.ensures c.in_ok-frames.ensures.positions long).within

pub slice_bounds-put_floats-end : goal.slice_bounds-put_floats-end
slice_bounds-put_floats-end c =
    let a = c.args in
    let long : length c.frames.new.positions ≡ 204 = c.frames.auto.positions in
    (positions-front (sheet_with a.sizes.now a.codes.now a.floats.now a.limits.now) _ a.joints.now _ _ _ c.in_ok-load_refusal.ensures c.links-counts.ensures
    c.positions_length-np.ensures c.in_ok-frames.ensures.positions long).sized

pub put_floats-requires : goal.put_floats-requires
put_floats-requires c =
    let a = c.args in
    let long : length c.frames.new.positions ≡ 204 = c.frames.auto.positions in
    let front = positions-front (sheet_with a.sizes.now a.codes.now a.floats.now a.limits.now) _ a.joints.now _ _ _ c.in_ok-load_refusal.ensures c.links-counts.ensures
    c.positions_length-np.ensures c.in_ok-frames.ensures.positions long in
    omega (arith, front.sized, bytes_fit _ (length a.positions.now) _ c.room.ensures (sym c.in_ok-room_refusal.ensures))

pub slice_bounds-q-end : goal.slice_bounds-q-end
slice_bounds-q-end c =
    let a = c.args in
    let long : length c.frames.new.rotations ≡ 288 = c.frames.auto.rotations in
    (rotations-front (sheet_with a.sizes.now a.codes.now a.floats.now a.limits.now) _ a.joints.now _ _ _ c.in_ok-load_refusal.ensures c.links-counts.ensures
    c.rotations_length-nq.ensures c.in_ok-frames.ensures.rotations long).within

pub slice_bounds-put_floats-end-2 : goal.slice_bounds-put_floats-end-2
slice_bounds-put_floats-end-2 c =
    let a = c.args in
    let long : length c.frames.new.rotations ≡ 288 = c.frames.auto.rotations in
    (rotations-front (sheet_with a.sizes.now a.codes.now a.floats.now a.limits.now) _ a.joints.now _ _ _ c.in_ok-load_refusal.ensures c.links-counts.ensures
    c.rotations_length-nq.ensures c.in_ok-frames.ensures.rotations long).sized

pub put_floats-requires-2 : goal.put_floats-requires-2
put_floats-requires-2 c =
    let a = c.args in
    let long : length c.frames.new.rotations ≡ 288 = c.frames.auto.rotations in
    let front = rotations-front (sheet_with a.sizes.now a.codes.now a.floats.now a.limits.now) _ a.joints.now _ _ _ c.in_ok-load_refusal.ensures c.links-counts.ensures
    c.rotations_length-nq.ensures c.in_ok-frames.ensures.rotations long in
    omega (arith, front.sized, bytes_fit _ (length a.rotations.now) _ c.room-2.ensures (sym c.in_ok-room_refusal-2.ensures))

pub returns-clause-positions : goal.returns-clause-positions
returns-clause-positions c =
    let a = c.args in
    let long : length c.frames.new.positions ≡ 204 = c.frames.auto.positions in
    let front = positions-front (sheet_with a.sizes.now a.codes.now a.floats.now a.limits.now) _ a.joints.now _ _ _ c.in_ok-load_refusal.ensures c.links-counts.ensures
    c.positions_length-np.ensures c.in_ok-frames.ensures.positions long in
    c.put_floats.ensures ∙ ap (λ (x : List Float). splice a.positions.now 0 (bytes_of x)) front.held ∙ sym (taken 0 _ _ refl)

pub returns-clause-rotations : goal.returns-clause-rotations
returns-clause-rotations c =
    let a = c.args in
    let long : length c.frames.new.rotations ≡ 288 = c.frames.auto.rotations in
    let front = rotations-front (sheet_with a.sizes.now a.codes.now a.floats.now a.limits.now) _ a.joints.now _ _ _ c.in_ok-load_refusal.ensures c.links-counts.ensures
    c.rotations_length-nq.ensures c.in_ok-frames.ensures.rotations long in
    c.put_floats-2.ensures ∙ ap (λ (x : List Float). splice a.rotations.now 0 (bytes_of x)) front.held ∙ sym (taken 0 _ _ refl)
