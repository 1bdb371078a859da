-- `reset` meets its contract: the call is lent the record's lists, and outputs that are filled.
use mathlib.Core.Path.{ap, ◌∙◌}
use mathlib.Core.List.{[], ◌∷◌}
use Prim.Native.Nat.{◌+◌}
use Rattle.lent_bytes.specs.Lent.{numbers_in, floats_in, room_in, bytes_of}
use Rattle.lent_bytes.specs.SheetLists.{same-two, same-three, same-sheet}
use Rattle.lent_bytes.specs.ToolLists.{tools_from}
use Rattle.arm_bytes.specs.ArmCalls.{end_poses, reset_blocks, reset_number}
use Rattle.stored_answers.specs.Same.{same-four, same-five}
use Rattle.stored_answers.specs.Stored.{list_of}
use Rattle.stored_answers.specs.Agree.{filled-length, left-written, same_answer}
use Rattle.replay_calls.specs.Table.{pose_outputs}
use Rattle.replay_calls.specs.Arms.{reset_agrees}
use Rattle.replay_calls.proofs.arm_cases.reset.Goals as goal

pub returns : goal.returns
unfolding reset_agrees
returns c =
    let o = list_of c.args.r.s.now c.args.r.at in
    let z = same-sheet (ap (numbers_in 5) c.list.ensures.0) (ap (numbers_in 64) c.list-2.ensures.0) (ap (floats_in 448) c.list-3.ensures.0) (ap (floats_in 32) c.list-4.ensures.0) in
    let t = same-four tools_from c.list-5.ensures.0 c.list-6.ensures.0 c.list-7.ensures.0 c.list-8.ensures.0 in
    let x = ap (floats_in 16) c.list-9.ensures.0 in
    let n = c.reset-number.ensures.number ∙ same-five reset_number z t x (ap room_in (filled-length (o pose_outputs) c.requires.0)) (ap room_in (filled-length (o (pose_outputs + 1)) c.requires.1)) in
    c.agrees.ensures ∙ same_answer _ _ pose_outputs n (same-two (λ a c. a ∷ c ∷ [])
    (c.reset-number.ensures.history ∙ left-written (o pose_outputs) n c.requires.0 (ap bytes_of (ap reset_blocks x)))
    (c.reset-number.ensures.ends ∙ left-written (o (pose_outputs + 1)) n c.requires.1 (ap bytes_of (same-three end_poses z t x))))
