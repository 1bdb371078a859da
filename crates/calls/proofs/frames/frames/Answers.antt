-- `frames` meets its contract: the lists are made of the walk's poses.
use mathlib.Core.Path.{◌≡◌, refl, sym, ap, ◌∙◌}
use native.Mathlib.Omega.{arith}
use lib.ListN.{length}
use Rattle.lists.specs.Splice.{splice}
use Rattle.spacetime.specs.Frames.{positions-ext, rotations-ext}
use Rattle.refusals.specs.Lengths.{positions-sum, rotations-sum}
use Rattle.calls.specs.Arms.{sheet-of, walked, taken}
use Rattle.calls.specs.Frames.{frames-passed}
use Rattle.calls.proofs.frames.frames.Goals as goal

pub get_frames_immutable-requires-clause-sheet : goal.get_frames_immutable-requires-clause-sheet
get_frames_immutable-requires-clause-sheet c =
    sheet-of _ _ _ _ c.requires (frames-passed _ _ _ _ _ (sym c.in_ok-frames_refusal.ensures)).0

pub put_positions-requires-clause-counts_in_bounds : goal.put_positions-requires-clause-counts_in_bounds
put_positions-requires-clause-counts_in_bounds c =
    let passed = frames-passed _ _ _ _ _ (sym c.in_ok-frames_refusal.ensures) in
    let held : length c.get_frames_immutable.new.out ≡ 448 = c.get_frames_immutable.auto.out in
    (omega (arith, c.requires, held), omega (arith, positions-sum c.args.counts.now, passed.1))

pub put_rotations-requires-clause-counts_in_bounds : goal.put_rotations-requires-clause-counts_in_bounds
put_rotations-requires-clause-counts_in_bounds c =
    let passed = frames-passed _ _ _ _ _ (sym c.in_ok-frames_refusal.ensures) in
    let held : length c.get_frames_immutable.new.out ≡ 448 = c.get_frames_immutable.auto.out in
    (omega (arith, c.requires, held), omega (arith, rotations-sum c.args.counts.now, passed.2))

pub returns-clause-positions : goal.returns-clause-positions
returns-clause-positions c =
    let a = c.args in
    let w = walked a.counts.now a.codes.now a.floats.now a.block.now _ _ c.requires (omega arith) c.get_frames_immutable.ensures in
    c.put_positions.ensures ∙ ap (splice a.positions.now 0) (positions-ext a.counts.now _ _ w) ∙ sym (taken 0 _ _ refl)

pub returns-clause-rotations : goal.returns-clause-rotations
returns-clause-rotations c =
    let a = c.args in
    let w = walked a.counts.now a.codes.now a.floats.now a.block.now _ _ c.requires (omega arith) c.get_frames_immutable.ensures in
    c.put_rotations.ensures ∙ ap (splice a.rotations.now 0) (rotations-ext a.counts.now _ _ w c.requires.chains) ∙ sym (taken 0 _ _ refl)
