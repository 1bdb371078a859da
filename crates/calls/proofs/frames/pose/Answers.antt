-- `pose` meets its contract: the list is made of the walk's poses.
use mathlib.Core.Path.{◌≡◌, refl, sym, ap, ◌∙◌}
use native.Mathlib.Omega.{arith}
use lib.ListN.{length}
use Rattle.lists.specs.Splice.{splice}
use Rattle.spacetime.specs.Frames.{ends-ext}
use Rattle.refusals.specs.Lengths.{ends_length}
use Rattle.calls.specs.Arms.{sheet-of, walked, taken}
use Rattle.calls.specs.Frames.{pose-passed}
use Rattle.calls.proofs.frames.pose.Goals as goal

pub get_frames_immutable-requires-clause-sheet : goal.get_frames_immutable-requires-clause-sheet
get_frames_immutable-requires-clause-sheet c =
    sheet-of _ _ _ _ c.requires.0 (pose-passed _ _ _ _ (sym c.in_ok-pose_refusal.ensures)).0

pub put_ends-requires-clause-counts_in_bounds : goal.put_ends-requires-clause-counts_in_bounds
unfolding ends_length
put_ends-requires-clause-counts_in_bounds c =
    let passed = pose-passed _ _ _ _ (sym c.in_ok-pose_refusal.ensures) in
    let held : length c.get_frames_immutable.new.out ≡ 448 = c.get_frames_immutable.auto.out in
    (omega (arith, c.requires, held), omega (arith, c.requires, passed.1))

pub returns-clause-ends : goal.returns-clause-ends
returns-clause-ends c =
    let a = c.args in
    let w = walked a.counts.now a.codes.now a.floats.now a.block.now _ _ c.requires.0 (omega arith) c.get_frames_immutable.ensures in
    c.put_ends.ensures ∙ ap (splice a.ends.now 0) (ends-ext a.counts.now _ _ w a.tools.now c.requires.0.chains) ∙ sym (taken 0 _ _ refl)
