-- `gradient_one_block` meets its contract: the call is lent the record's lists, and outputs that are filled.
use mathlib.Core.Path.{ap, ◌∙◌}
use mathlib.Core.List.{[], ◌∷◌}
use Prim.Native.Nat.{ℕ, ◌+◌}
use Rattle.lent_bytes.specs.Lent.{numbers_in, floats_in, room_in, number_room_in, bytes_of, bytes_of_numbers}
use Rattle.lent_bytes.specs.SheetLists.{same-two, same-three, same-sheet}
use Rattle.lent_bytes.specs.Picks.{picks_from}
use Rattle.lent_bytes.specs.ToolLists.{tools_from}
use Rattle.objective_bytes.specs.ObjectiveCalls.{task_from, gradient_slopes, objective_value}
use Rattle.one_block_bytes.specs.OneBlockCalls.{record_joints_in, record_links_in, one_block_number, record_poses_in}
use Rattle.stored_answers.specs.Same.{same-four, same-five}
use Rattle.stored_answers.specs.Stored.{list_of}
use Rattle.stored_answers.specs.Agree.{filled-length, left-written, same_answer}
use Rattle.replay_calls.specs.Table.{objective_outputs}
use Rattle.replay_calls.specs.Objectives.{one_block_agrees}
use Rattle.replay_calls.proofs.objective_cases.gradient_one_block.Goals as goal

pub returns : goal.returns
unfolding one_block_agrees
returns c =
    let o = list_of c.args.r.s.now c.args.r.at in
    let z = same-sheet (ap (numbers_in 5) c.list.ensures.0) (ap (numbers_in 64) c.list-2.ensures.0) (ap (floats_in 448) c.list-3.ensures.0) (ap (floats_in 32) c.list-4.ensures.0) in
    let k = same-four tools_from c.list-8.ensures.0 c.list-9.ensures.0 c.list-10.ensures.0 c.list-11.ensures.0 in
    let t = same-four task_from c.list-5.ensures.0 c.list-6.ensures.0 c.list-7.ensures.0 k in
    let x = ap (floats_in 16) c.list-12.ensures.0 in
    let p = ap picks_from c.list_number-strict.ensures in
    let n = c.gradient_one_block-number.ensures.number ∙ same-four (λ (f : ℕ → ℕ → ℕ → ℕ) a b c. f a b c) (same-three (λ (f : ℕ → ℕ → ℕ → ℕ → ℕ → ℕ) a b. f a b) (same-three one_block_number z t x) (ap room_in (filled-length (o objective_outputs) c.requires.0)) (ap room_in (filled-length (o (objective_outputs + 1)) c.requires.1))) (ap number_room_in (filled-length (o (objective_outputs + 2)) c.requires.2)) (ap number_room_in (filled-length (o (objective_outputs + 3)) c.requires.3)) (ap room_in (filled-length (o (objective_outputs + 4)) c.requires.4)) in
    c.agrees.ensures ∙ same_answer _ _ objective_outputs n (same-five (λ a b c d e. a ∷ b ∷ c ∷ d ∷ e ∷ [])
    (c.gradient_one_block-number.ensures.value ∙ left-written (o objective_outputs) n c.requires.0 (ap bytes_of (same-four objective_value z t p x)))
    (c.gradient_one_block-number.ensures.slopes ∙ left-written (o (objective_outputs + 1)) n c.requires.1 (ap bytes_of (same-four gradient_slopes z t p x)))
    (c.gradient_one_block-number.ensures.record_written.0 ∙ left-written (o (objective_outputs + 2)) n c.requires.2 (ap bytes_of_numbers (ap record_joints_in z)))
    (c.gradient_one_block-number.ensures.record_written.1 ∙ left-written (o (objective_outputs + 3)) n c.requires.3 (ap bytes_of_numbers (ap record_links_in z)))
    (c.gradient_one_block-number.ensures.record_written.2 ∙ left-written (o (objective_outputs + 4)) n c.requires.4 (ap bytes_of (same-two record_poses_in z x))))
