-- `frames` meets its contract: the call is lent the record's lists, and outputs that are filled.
use mathlib.Core.Path.{ap, ◌∙◌}
use mathlib.Core.List.{[], ◌∷◌}
use Prim.Native.Nat.{◌+◌}
use Rattle.lent_bytes.specs.Lent.{numbers_in, floats_in, room_in, bytes_of}
use Rattle.lent_bytes.specs.SheetLists.{same-two, same-sheet}
use Rattle.arm_bytes.specs.ArmCalls.{frame_positions, frame_rotations, frames_number}
use Rattle.stored_answers.specs.Same.{same-four}
use Rattle.stored_answers.specs.Stored.{list_of}
use Rattle.stored_answers.specs.Agree.{filled-length, left-written, same_answer}
use Rattle.replay_calls.specs.Table.{arm_outputs}
use Rattle.replay_calls.specs.Arms.{frames_agree}
use Rattle.replay_calls.proofs.arm_cases.frames.Goals as goal

pub returns : goal.returns
unfolding frames_agree
returns c =
    let o = list_of c.args.r.s.now c.args.r.at in
    let z = same-sheet (ap (numbers_in 5) c.list.ensures.0) (ap (numbers_in 64) c.list-2.ensures.0) (ap (floats_in 448) c.list-3.ensures.0) (ap (floats_in 32) c.list-4.ensures.0) in
    let x = ap (floats_in 16) c.list-5.ensures.0 in
    let n = c.frames-number.ensures.number ∙ same-four frames_number z x (ap room_in (filled-length (o arm_outputs) c.requires.0)) (ap room_in (filled-length (o (arm_outputs + 1)) c.requires.1)) in
    c.agrees.ensures ∙ same_answer _ _ arm_outputs n (same-two (λ a c. a ∷ c ∷ [])
    (c.frames-number.ensures.positions ∙ left-written (o arm_outputs) n c.requires.0 (ap bytes_of (same-two frame_positions z x)))
    (c.frames-number.ensures.rotations ∙ left-written (o (arm_outputs + 1)) n c.requires.1 (ap bytes_of (same-two frame_rotations z x))))
