-- What a plan promises of the bytes that are lent: eight a float. And what sizing says of loading.
use Rattle.std.specs.Prelude.{◌≡◌, false, ◌⊎◌, List, [], ◌∷◌, ℕ, ◌+◌, ◌*◌, ◌/◌, ◌%◌, ◌≤◌, ◌<◌, Float}
use Rattle.std.proofs.Math.Path.{ap}
use Rattle.std.proofs.Common.{◌∙◌, arith}
use Rattle.std.proofs.Math.Logic.{inl, inr, ⊎_elim}
use Rattle.lists.specs.Runs.{runs}
use Rattle.lists.specs.Listed.{listed}
use Rattle.sheet.specs.Chain.{joints}
use Rattle.task.specs.declared.picks.Picks.{Picks}
use Rattle.refusals.specs.Lengths.{plan_length}
use Rattle.refusals.specs.Lowest.{first_of, first-zero, first-none, first-most}
use Rattle.refusals.specs.Refusal.{links_of, bad_limits, block_refusal}
use Rattle.refusals.specs.Passed.{load-sizing, sizing-load, room-enough, load-most, block-most}
use Rattle.calls.specs.Frames.{frames_refusal}
use Rattle.sizing.specs.declared.plan.Plan.{Plan}
use Rattle.sizing.specs.Sizing.{Small, sheet_plan, plan_list, plan-small}
use Rattle.sizing.specs.Planned.{FramesRoom, FramesShort, frames-planned, frames-short}
use Rattle.lent_bytes.specs.Lent.{count_in, numbers_in, bytes_of_each, bytes_of_numbers, room_in, room_within, room_whole}
use Rattle.lent_bytes.specs.SheetLists.{SheetLists, same-two}
use Rattle.arm_bytes.specs.ArmCalls.{load_number, sizing_number, plan_numbers, frames_number}

-- the plan of a sheet, under a pick
abbrev pub plan_in : Picks → SheetLists → Plan
plan_in p s = sheet_plan p s.sizes s.codes

pair-back : (n : ℕ) → n < 65536 → n % 256 + 256 * (n / 256 % 256) ≡ n
pair-back n h = omega arith

four-back : (a b c d : ℕ) → a < 65536 → b < 65536 → c < 65536 → d < 65536 → numbers_in 4 (bytes_of_numbers (a ∷ b ∷ c ∷ d ∷ [])) ≡ a ∷ b ∷ c ∷ d ∷ []
unfolding numbers_in bytes_of_numbers bytes_of_each count_in listed runs
four-back a b c d ha hb hc hd = rw (pair-back a ha, pair-back b hb, pair-back c hc, pair-back d hd)

module _ (s : SheetLists) where
  -- a sheet that load takes is taken by sizing
  pub load-then-sizing : (room : ℕ) → plan_length ≤ room → load_number s ≡ 0 → sizing_number s.sizes s.codes s.floats room ≡ 0
  unfolding sizing_number
  load-then-sizing room h e = first-zero _ _ (load-sizing s.sizes s.codes s.floats s.limits e) ∙ room-enough plan_length room h

  -- one that sizing takes, with good limits, by load
  pub sizing-then-load : (room : ℕ) → sizing_number s.sizes s.codes s.floats room ≡ 0 → bad_limits (joints s.codes) s.limits ≡ false
      → load_number s ≡ 0
  unfolding sizing_number
  sizing-then-load room e good = sizing-load s.sizes s.codes s.floats s.limits (first-none _ _ e).0 good

module _ (picks : Picks) (s : SheetLists) where
  -- what sizing writes, read as u16s, is the plan: no number is cut
  pub plan-read : (room : ℕ) → sizing_number s.sizes s.codes s.floats room ≡ 0
      → numbers_in plan_length (bytes_of_numbers (plan_numbers picks s.sizes s.codes)) ≡ plan_list (plan_in picks s)
  unfolding sizing_number plan_numbers plan_list
  plan-read room e =
      let l : Small (plan_in picks s) = plan-small picks s.sizes s.codes s.floats (first-none _ _ e).0 in
      four-back _ _ _ _ l.positions l.rotations l.objectives l.entries

  module _ (x : List Float) where
    -- frames into lists of p and r floats, of the planned lengths or longer: neither has a part in the number
    pub frames-bytes-planned : (p r : ℕ) → FramesRoom (plan_in picks s) p r
        → frames_number s x (room_in (8 * p)) (room_in (8 * r)) ≡ first_of (load_number s) (block_refusal s.codes x)
    unfolding frames_number
    frames-bytes-planned p r h =
        ap (first_of (load_number s))
        (same-two (frames_refusal (links_of s.sizes) s.codes x) (room_whole p) (room_whole r) ∙ frames-planned picks (links_of s.sizes) s.codes x p r h)

    -- so it is never 9
    pub frames-bytes-never-nine : (p r : ℕ) → FramesRoom (plan_in picks s) p r → frames_number s x (room_in (8 * p)) (room_in (8 * r)) ≡ 9 → ⊥
    frames-bytes-never-nine p r h nine =
        let load = load-most s.sizes s.codes s.floats s.limits in
        omega (arith, nine, frames-bytes-planned p r h, first-most (load_number s) (block_refusal s.codes x) 8 (omega (arith, load)) (omega (arith, block-most s.codes x)))

    -- with fewer bytes in either it is 9, where neither the sheet nor the block is refused
    pub frames-bytes-short : (m n : ℕ) → load_number s ≡ 0 → block_refusal s.codes x ≡ 0 → (m < 8 * (plan_in picks s).positions) ⊎ (n < 8 * (plan_in picks s).rotations)
        → frames_number s x (room_in m) (room_in n) ≡ 9
    unfolding frames_number
    frames-bytes-short m n e q h =
        let short : FramesShort (plan_in picks s) (room_in m) (room_in n) =
        ⊎_elim (λ (a : m < 8 * (plan_in picks s).positions). inl (omega (arith, room_within m))) (λ (b : n < 8 * (plan_in picks s).rotations). inr (omega (arith, room_within n))) h in
        first-zero _ _ e ∙ frames-short picks (links_of s.sizes) s.codes x (room_in m) (room_in n) q short
