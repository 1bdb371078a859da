-- What a plan promises of the calls on the state: `sizing` answered it for a sheet, and that sheet is loaded. With lists of the planned lengths no call answers
-- 9 for them; one entry fewer in any of them, and it does, where no earlier refusal applies.
use Rattle.std.specs.Prelude.{◌≡◌, Bool, Ok, List, ℕ, ◌≤◌, Float}
use Rattle.std.proofs.Math.Path.{refl, ap}
use Rattle.std.proofs.Common.{sym, ◌∙◌, subst, arith, ne_eqb}
use Rattle.std.proofs.Math.Bool.{true, false}
use Rattle.sheet.specs.Chain.{joints}
use Rattle.task.specs.declared.picks.Picks.{Picks}
use Rattle.refusals.specs.Lengths.{slopes_length}
use Rattle.refusals.specs.Lowest.{first_of, first-zero, first-last, first-is}
use Rattle.refusals.specs.Refusal.{links_of, bad_limits, load_refusal, block_refusal, room_refusal}
use Rattle.refusals.specs.Passed.{load-sizing, sizing-load, room-enough, block-most}
use Rattle.calls.specs.Frames.{frames_refusal}
use Rattle.calls.specs.OneBlock.{one_block_refusal}
use Rattle.sizing.specs.declared.plan.Plan.{Plan}
use Rattle.sizing.specs.Sizing.{sheet_plan, sizing_of, sizing-taken, planned-is}
use Rattle.sizing.specs.Planned.{FramesRoom, FramesShort, RecordRoom, RecordShort, frames-planned, frames-short, one-block-planned, one-block-short}
use Rattle.state_calls.specs.declared.state.Arms.{Arms}
use Rattle.state_calls.specs.declared.state.State.{State}
use Rattle.state_calls.specs.State.{links_used, codes_used, have_sheet}
use Rattle.state_calls.specs.Load.{load_of, outcome_of, outcome-keeps}
use Rattle.state_calls.specs.Party.{set_goals_of, reset_state_of, update_state_of}
use Rattle.state_calls.specs.StoredSheet.{if_arms, frames_stored}
use Rattle.state_calls.specs.StoredTask.{state_number, after_state}
use Rattle.state_calls.specs.Arms.{frames_number_of}
use Rattle.state_calls.specs.OneBlock.{one_block_stored, one_block_number_of}

-- the arms in the state are those of a sheet
pub record Holds (sizes codes : List ℕ) (arms : Arms) : Type 0 where
  pub have : have_sheet arms.sizes arms.codes ≡ true
  pub links : links_used arms.sizes ≡ links_of sizes
  pub same_codes : codes_used arms.sizes arms.codes ≡ codes

-- ---- a sheet that is loaded stays until another is (that it is there at first: `holds-loaded`, proofs/Loaded.antt)
module _ (s : State) (x : List Float) where
  pub set-goals-keeps-arms : (set_goals_of s x).state.arms ≡ s.arms
  unfolding set_goals_of
  set-goals-keeps-arms = outcome-keeps (λ t. t.arms) _ s _ refl

  pub reset-keeps-arms : (reset_state_of s x).state.arms ≡ s.arms
  unfolding reset_state_of
  reset-keeps-arms = outcome-keeps (λ t. t.arms) _ s _ refl

  pub update-keeps-arms : (update_state_of s x).state.arms ≡ s.arms
  unfolding update_state_of
  update-keeps-arms = outcome-keeps (λ t. t.arms) _ s _ refl

module _ (s : State) (sizes codes : List ℕ) (floats limits : List Float) where
  pub refused-load-keeps-arms : ((load_of s sizes codes floats limits).number ≡ 0 → ⊥) → (load_of s sizes codes floats limits).state.arms ≡ s.arms
  unfolding load_of outcome_of
  refused-load-keeps-arms h = rw (ne_eqb (load_refusal sizes codes floats limits) 0 h)

  -- ---- sizing and loading
  -- a sheet that load takes is taken by sizing
  pub load-then-sizing : (picks : Picks) → (load_of s sizes codes floats limits).number ≡ 0 → sizing_of picks sizes codes floats ≡ Ok (sheet_plan picks sizes codes)
  unfolding load_of outcome_of
  load-then-sizing picks e = sizing-taken picks sizes codes floats (load-sizing sizes codes floats limits e)

  -- one that sizing takes, with good limits, by load
  pub sizing-then-load : (picks : Picks) (plan : Plan) → sizing_of picks sizes codes floats ≡ Ok plan → bad_limits (joints codes) limits ≡ false
      → (load_of s sizes codes floats limits).number ≡ 0
  unfolding load_of outcome_of
  sizing-then-load picks plan e good = sizing-load sizes codes floats limits (planned-is picks sizes codes floats plan e).0 good

-- ---- the calls
module _ (picks : Picks) (sizes codes : List ℕ) (floats : List Float) (plan : Plan) (answered : sizing_of picks sizes codes floats ≡ Ok plan) (s : State) (held : Holds sizes codes s.arms) (x : List Float) where
  own : plan ≡ sheet_plan picks sizes codes
  own = (planned-is picks sizes codes floats plan answered).1

  frames-held : (p r : ℕ) → frames_number_of s x p r ≡ frames_refusal (links_of sizes) codes x p r
  unfolding frames_stored if_arms
  frames-held p r = rw (held.have, held.links, held.same_codes)

  -- frames with the planned lengths: only the block is asked
  pub frames-stored-planned : (p r : ℕ) → FramesRoom plan p r → frames_number_of s x p r ≡ block_refusal codes x
  frames-stored-planned p r h = frames-held p r ∙ frames-planned picks (links_of sizes) codes x p r (subst (λ q. FramesRoom q p r) own h)

  pub frames-stored-never-nine : (p r : ℕ) → FramesRoom plan p r → frames_number_of s x p r ≡ 9 → ⊥
  frames-stored-never-nine p r h nine = omega (arith, nine, frames-stored-planned p r h, block-most codes x)

  pub frames-stored-short : (p r : ℕ) → block_refusal codes x ≡ 0 → FramesShort plan p r → frames_number_of s x p r ≡ 9
  frames-stored-short p r q h = frames-held p r ∙ frames-short picks (links_of sizes) codes x p r q (subst (λ q. FramesShort q p r) own h)

  one-block-held : (slopes rj rl rp : ℕ) → one_block_number_of s x slopes rj rl rp
      ≡ first_of (state_number true s.party.has_goals s.party.started) (one_block_refusal (links_of sizes) codes x slopes rj rl rp)
  unfolding one_block_stored after_state
  one-block-held slopes rj rl rp = rw (held.have, held.links, held.same_codes)

  -- the gradient on one block with the planned record: only the state, the block and the slopes are asked
  pub one-block-stored-planned : (slopes rj rl rp : ℕ) → RecordRoom plan rj rl rp → one_block_number_of s x slopes rj rl rp
      ≡ first_of (state_number true s.party.has_goals s.party.started) (first_of (block_refusal codes x) (room_refusal (slopes_length codes) slopes))
  one-block-stored-planned slopes rj rl rp h =
      one-block-held slopes rj rl rp
      ∙ ap (first_of (state_number true s.party.has_goals s.party.started))
      (one-block-planned picks (links_of sizes) codes x slopes rj rl rp (subst (λ q. RecordRoom q rj rl rp) own h))

  pub one-block-stored-never-nine : (slopes rj rl rp : ℕ) → slopes_length codes ≤ slopes → RecordRoom plan rj rl rp → one_block_number_of s x slopes rj rl rp ≡ 9 → ⊥
  unfolding state_number
  one-block-stored-never-nine slopes rj rl rp l h nine =
      let some : one_block_number_of s x slopes rj rl rp ≡ first_of (state_number true s.party.has_goals s.party.started) (block_refusal codes x) =
      one-block-stored-planned slopes rj rl rp h
      ∙ ap (first_of (state_number true s.party.has_goals s.party.started)) (first-last _ _ (room-enough (slopes_length codes) slopes l)) in
      not-nine s.party.has_goals s.party.started (sym some ∙ nine)
    where
      not-nine : (goals started : Bool) → first_of (state_number true goals started) (block_refusal codes x) ≡ 9 → ⊥
      not-nine true true e = omega (arith, e, first-zero 0 (block_refusal codes x) refl, block-most codes x)
      not-nine true false e = omega (arith, e, first-is 22 (block_refusal codes x) 21 refl)
      not-nine false started e = omega (arith, e, first-is 21 (block_refusal codes x) 20 refl)

  pub one-block-stored-short : (slopes rj rl rp : ℕ) → s.party.has_goals ≡ true → s.party.started ≡ true → block_refusal codes x ≡ 0
      → RecordShort plan rj rl rp → one_block_number_of s x slopes rj rl rp ≡ 9
  unfolding state_number
  one-block-stored-short slopes rj rl rp goals started q h =
      one-block-held slopes rj rl rp
      ∙ first-zero _ _ (rw (goals, started))
      ∙ one-block-short picks (links_of sizes) codes x slopes rj rl rp q (subst (λ q. RecordShort q rj rl rp) own h)
