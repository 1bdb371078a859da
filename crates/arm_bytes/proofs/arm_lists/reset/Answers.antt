-- `reset` meets its contract: the outputs are the bytes of four blocks and of the end poses.
use mathlib.Core.Path.{◌≡◌, refl, sym, ap, ◌∙◌}
use mathlib.Core.List.{List}
use native.Mathlib.Omega.{arith}
use lib.Ieee.{Float}
use lib.ListN.{length}
use Rattle.lists.specs.Splice.{splice}
use Rattle.refusals.specs.Passed.{block-passed}
use Rattle.calls.specs.Arms.{taken}
use Rattle.calls.specs.Frames.{pose-passed}
use Rattle.lent_bytes.specs.Lent.{bytes_of}
use Rattle.lent_bytes.specs.SheetLists.{sheet_with}
use Rattle.arm_bytes.specs.ArmLaws.{bytes_fit, ends-front}
use Rattle.arm_bytes.proofs.arm_lists.reset.Goals as goal

pub put_four-requires : goal.put_four-requires
put_four-requires c =
    let a = c.args in
    let x = block-passed _ _ (pose-passed _ _ a.joints.now _ (sym c.in_ok-pose.ensures.number)).0 in
    omega (arith, x, c.history_length.ensures, bytes_fit _ (length a.history.now) _ c.room-2.ensures (sym c.in_ok-room_refusal-2.ensures))

pub slice_bounds-p-end : goal.slice_bounds-p-end
slice_bounds-p-end c =
    let a = c.args in
    let long : length c.pose.new.ends ≡ 28 = c.pose.auto.ends in
    (ends-front (sheet_with a.sizes.now a.codes.now a.floats.now a.limits.now) _ a.joints.now _ _ _ c.in_ok-load_refusal.ensures c.links-counts.ensures
    a.tools.now c.ends_length-np.ensures c.in_ok-pose.ensures.ends long).within

pub slice_bounds-put_floats-end : goal.slice_bounds-put_floats-end
slice_bounds-put_floats-end c =
    let a = c.args in
    let long : length c.pose.new.ends ≡ 28 = c.pose.auto.ends in
    (ends-front (sheet_with a.sizes.now a.codes.now a.floats.now a.limits.now) _ a.joints.now _ _ _ c.in_ok-load_refusal.ensures c.links-counts.ensures
    a.tools.now c.ends_length-np.ensures c.in_ok-pose.ensures.ends long).sized

pub put_floats-requires : goal.put_floats-requires
put_floats-requires c =
    let a = c.args in
    let long : length c.pose.new.ends ≡ 28 = c.pose.auto.ends in
    let front = ends-front (sheet_with a.sizes.now a.codes.now a.floats.now a.limits.now) _ a.joints.now _ _ _ c.in_ok-load_refusal.ensures c.links-counts.ensures
    a.tools.now c.ends_length-np.ensures c.in_ok-pose.ensures.ends long in
    omega (arith, front.sized, bytes_fit _ (length a.ends.now) _ c.room.ensures (sym c.in_ok-room_refusal.ensures))

pub returns-clause-ends : goal.returns-clause-ends
returns-clause-ends c =
    let a = c.args in
    let long : length c.pose.new.ends ≡ 28 = c.pose.auto.ends in
    let front = ends-front (sheet_with a.sizes.now a.codes.now a.floats.now a.limits.now) _ a.joints.now _ _ _ c.in_ok-load_refusal.ensures c.links-counts.ensures
    a.tools.now c.ends_length-np.ensures c.in_ok-pose.ensures.ends long in
    c.put_floats.ensures ∙ ap (λ (x : List Float). splice a.ends.now 0 (bytes_of x)) front.held ∙ sym (taken 0 _ _ refl)
