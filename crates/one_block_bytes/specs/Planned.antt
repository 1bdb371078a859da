-- What a plan promises of the record as bytes: two a joint or a link, eight a float of a pose.
use Rattle.std.specs.Prelude.{◌≡◌, refl, Bool, true, false, cond, ◌⊎◌, List, ℕ, zero, suc, ◌*◌, ◌≤◌, ◌<◌, Float}
use Rattle.std.proofs.Common.{sym, ◌∙◌, arith}
use Rattle.std.proofs.Math.Path.{ap}
use Rattle.std.proofs.Math.Logic.{inl, inr, ⊎_elim}
use Rattle.task.specs.declared.picks.Picks.{Picks}
use Rattle.refusals.specs.Lengths.{slopes_length, value_length, record_poses_length}
use Rattle.refusals.specs.Lowest.{first_of, first-zero, first_some, first-is, first-most}
use Rattle.refusals.specs.Refusal.{chains_of, bad_weights, bad_tools, room_refusal, weights_refusal, tools_refusal}
use Rattle.refusals.specs.Passed.{load-most, block-most, history-most, goals-most, room-enough, room-behind}
use Rattle.calls.specs.OneBlock.{record_refusal}
use Rattle.sizing.specs.Sizing.{plan_of}
use Rattle.sizing.specs.Planned.{RecordRoom, RecordShort, record-room, record-short}
use Rattle.lent_bytes.specs.Lent.{room_in, number_room_in, room_within, number-room-within, room_whole, number-room-whole}
use Rattle.lent_bytes.specs.SheetLists.{SheetLists, same-three}
use Rattle.arm_bytes.specs.Planned.{plan_in}
use Rattle.objective_bytes.specs.ObjectiveCalls.{TaskLists, task_number, optional_number}
use Rattle.one_block_bytes.specs.OneBlockCalls.{entries_in, one_block_number}

-- a plan's entries are those that the call asks
planned-entries : (picks : Picks) (s : SheetLists) → (plan_in picks s).entries ≡ entries_in s
unfolding plan_of
planned-entries picks s = refl

optional-not-nine : (s : SheetLists) (t : TaskLists) → optional_number s t ≡ 9 → ⊥
unfolding optional_number weights_refusal tools_refusal first_of
optional-not-nine s t e = pick (bad_weights t.weights) (bad_tools (chains_of s.sizes) t.tools) e
  where
    pick : (a b : Bool) → first_of (cond a 10 0) (cond b 11 0) ≡ 9 → ⊥
    pick true b e = omega arith
    pick false true e = omega arith
    pick false false e = omega arith

-- a number below 9, or else one that is not 9
never-nine : (a b : ℕ) → a ≤ 8 → (b ≡ 9 → ⊥) → first_of a b ≡ 9 → ⊥
never-nine zero b h k e = k (sym (first-zero 0 b refl) ∙ e)
never-nine (suc a) b h k e = omega (arith, first_some (suc a) b (λ z. omega arith), e)

module _ (picks : Picks) (s : SheetLists) (t : TaskLists) (x : List Float) where
  -- the numbers before 9
  task-most : task_number s t.goals t.history x ≤ 8
  unfolding task_number
  task-most =
      first-most _ _ 8 (omega (arith, load-most s.sizes s.codes s.floats s.limits))
      (first-most _ _ 8
      (first-most _ _ 8 (omega (arith, block-most s.codes x)) (omega (arith, history-most s.codes t.history)))
      (goals-most (chains_of s.sizes) t.goals))

  -- a record of rj joints, rl links and rp floats of poses, of the planned lengths or longer: none has a part in the number
  pub one-block-bytes-planned : (value slopes rj rl rp : ℕ) → RecordRoom (plan_in picks s) rj rl rp
      → one_block_number s t x value slopes (number_room_in (2 * rj)) (number_room_in (2 * rl)) (room_in (8 * rp))
      ≡ first_of (task_number s t.goals t.history x) (first_of (room_refusal value_length value) (first_of (room_refusal (slopes_length s.codes) slopes) (optional_number s t)))
  unfolding one_block_number
  one-block-bytes-planned value slopes rj rl rp h =
      ap (λ (n : ℕ). first_of (task_number s t.goals t.history x) (first_of (room_refusal value_length value) (first_of (room_refusal (slopes_length s.codes) slopes) n)))
      (first-zero _ _
      (same-three (record_refusal (entries_in s)) (number-room-whole rj) (number-room-whole rl) (room_whole rp)
      ∙ ap (λ (n : ℕ). record_refusal n rj rl rp) (sym (planned-entries picks s))
      ∙ record-room (plan_in picks s) rj rl rp h))

  -- so with room for the value and the slopes it is never 9
  pub one-block-bytes-never-nine : (value slopes rj rl rp : ℕ) → value_length ≤ value → slopes_length s.codes ≤ slopes → RecordRoom (plan_in picks s) rj rl rp
      → one_block_number s t x value slopes (number_room_in (2 * rj)) (number_room_in (2 * rl)) (room_in (8 * rp)) ≡ 9 → ⊥
  one-block-bytes-never-nine value slopes rj rl rp v l h nine =
      let known = one-block-bytes-planned value slopes rj rl rp h
      ∙ ap (first_of (task_number s t.goals t.history x)) (first-zero _ _ (room-enough value_length value v) ∙ first-zero _ _ (room-enough (slopes_length s.codes) slopes l)) in
      never-nine _ _ task-most (optional-not-nine s t) (sym known ∙ nine)

  -- with fewer bytes in any of the three it is 9, where no number below 9 applies
  pub one-block-bytes-short : (value slopes j l p : ℕ) → task_number s t.goals t.history x ≡ 0
      → (j < 2 * (plan_in picks s).entries) ⊎ ((l < 2 * (plan_in picks s).entries) ⊎ (p < 8 * record_poses_length (plan_in picks s).entries))
      → one_block_number s t x value slopes (number_room_in j) (number_room_in l) (room_in p) ≡ 9
  unfolding one_block_number
  one-block-bytes-short value slopes j l p q h =
      let n = (plan_in picks s).entries in
      let short : RecordShort (plan_in picks s) (number_room_in j) (number_room_in l) (room_in p) =
      ⊎_elim (λ (a : j < 2 * n). inl (omega (arith, number-room-within j)))
      (λ (more : (l < 2 * n) ⊎ (p < 8 * record_poses_length n)).
      inr (⊎_elim (λ (b : l < 2 * n). inl (omega (arith, number-room-within l))) (λ (c : p < 8 * record_poses_length n). inr (omega (arith, room_within p))) more))
      h in
      first-zero _ _ q
      ∙ room-behind _ value _
      (room-behind _ slopes _
      (first-is _ _ 8
      (ap (λ (k : ℕ). record_refusal k (number_room_in j) (number_room_in l) (room_in p)) (sym (planned-entries picks s)) ∙ record-short (plan_in picks s) (number_room_in j) (number_room_in l) (room_in p) short)))
