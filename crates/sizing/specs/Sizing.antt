-- Sizing: the lengths of the frame lists and of the one-block record before any work, each by the definition that refusal 9 asks, and how many objectives there are.
use Rattle.std.specs.Prelude.{◌≡◌, refl, cond, List, [], ◌∷◌, ℕ, zero, suc, ◌≤◌, ◌<◌, eqb, Float, length, Result, Ok, Err}
use Rattle.std.proofs.Common.{sym, ap, ◌∙◌, arith, eq-eqb, ne_eqb}
use Rattle.sheet.specs.Chain.{total}
use Rattle.task.specs.declared.picks.Picks.{Picks}
use Rattle.objective_master.specs.Objective.{objective_count}
use Rattle.objective_master.specs.Count.{objectives-few}
use Rattle.one_block.specs.Record.{entries_of}
use Rattle.refusals.specs.Lengths.{positions_length, rotations_length, positions-most, rotations-most}
use Rattle.refusals.specs.Lowest.{first-none}
use Rattle.refusals.specs.Refusal.{links_of, shape_refusal, sizing_refusal}
use Rattle.refusals.specs.Number.{paper_number, number_of, refusal_of, paper_number-some, number-of-refusal}
use Rattle.refusals.specs.declared.refusal.Refusal.{Refusal}
use Rattle.refusals.specs.Passed.{shape-passed, sizing-first, sizing-most}
use Rattle.calls.specs.Arms.{Accepted, arms-passed}
use Rattle.calls.specs.AcceptedTask.{shape_two}
use Rattle.calls.specs.OneBlock.{entries-most}
use Rattle.sizing.specs.declared.plan.Plan.{Plan}

-- floats of both frame lists, objectives of the list that is picked, entries of the one-block record; ns are the links per chain, cs the codes
unfoldable pub plan_of : Picks → List ℕ → List ℕ → Plan
plan_of p ns cs = record { positions = positions_length ns; rotations = rotations_length ns; objectives = objective_count p ns cs; entries = entries_of ns cs }

-- of a sheet
abbrev pub sheet_plan : Picks → List ℕ → List ℕ → Plan
sheet_plan p sizes codes = plan_of p (links_of sizes) codes

-- a plan's numbers, in the order in which they are written
unfoldable pub plan_list : Plan → List ℕ
plan_list plan = plan.positions ∷ plan.rotations ∷ plan.objectives ∷ plan.entries ∷ []

-- a plan, or the refusal of a number, which is not 0
unfoldable pub planned_if : ℕ → Plan → Result Plan Refusal
planned_if number plan = cond (eqb number 0) (Ok plan) (Err (refusal_of number))

-- what sizing answers for a sheet
unfoldable pub sizing_of : Picks → List ℕ → List ℕ → List Float → Result Plan Refusal
sizing_of p sizes codes floats = planned_if (sizing_refusal sizes codes floats) (sheet_plan p sizes codes)

-- ---- laws
pub plan-made : (picks : Picks) (ns cs : List ℕ) (p r o e : ℕ) → p ≡ positions_length ns → r ≡ rotations_length ns → o ≡ objective_count picks ns cs → e ≡ entries_of ns cs
    → record { positions = p; rotations = r; objectives = o; entries = e } ≡ plan_of picks ns cs
unfolding plan_of
plan-made picks ns cs p r o e a b c d = rw (a, b, c, d)

-- each number of a plan fits two bytes
pub record Small (plan : Plan) : Type 0 where
  pub positions : plan.positions < 65536
  pub rotations : plan.rotations < 65536
  pub objectives : plan.objectives < 65536
  pub entries : plan.entries < 65536

planned-if : (number : ℕ) (sheet plan : Plan) → planned_if number sheet ≡ Ok plan → (number ≡ 0) × (plan ≡ sheet)
unfolding planned_if
planned-if zero sheet plan e = (refl, cc)
planned-if (suc n) sheet plan e =
    let z : Err (refusal_of (suc n)) ≡ Ok plan = rw (ne_eqb (suc n) 0 (λ z. omega arith)) at e in
    cc

-- of every number that is a refusal's, and of 0
number-if : (number : ℕ) (sheet : Plan) → (1 ≤ number → paper_number (refusal_of number) ≡ number) → number_of (planned_if number sheet) ≡ number
unfolding planned_if
number-if zero sheet named = refl
number-if (suc k) sheet named = rw (ne_eqb (suc k) 0 (λ z. omega arith)) (named (omega arith))

refused-if : (number : ℕ) (sheet : Plan) (e : Refusal) → (1 ≤ number → paper_number (refusal_of number) ≡ number) → planned_if number sheet ≡ Err e
    → (paper_number e ≡ 0 → ⊥) × (paper_number e ≡ number)
refused-if number sheet e named same =
    (λ z. omega (arith, paper_number-some e, z), sym (ap number_of same) ∙ number-if number sheet named)

module _ (p : Picks) (sizes codes : List ℕ) (floats : List Float) where
  few : sizing_refusal sizes codes floats ≤ 11
  few = omega (arith, sizing-most sizes codes floats)

  named : 1 ≤ sizing_refusal sizes codes floats → paper_number (refusal_of (sizing_refusal sizes codes floats)) ≡ sizing_refusal sizes codes floats
  named some = number-of-refusal (sizing_refusal sizes codes floats) some few

  -- the number is the lowest of those of loading but 5
  pub sizing-number : number_of (sizing_of p sizes codes floats) ≡ sizing_refusal sizes codes floats
  unfolding sizing_of
  sizing-number = number-if (sizing_refusal sizes codes floats) (sheet_plan p sizes codes) named

  -- a plan is answered for a sheet that is taken, and is that sheet's
  pub planned-is : (plan : Plan) → sizing_of p sizes codes floats ≡ Ok plan → (sizing_refusal sizes codes floats ≡ 0) × (plan ≡ sheet_plan p sizes codes)
  unfolding sizing_of
  planned-is plan e = planned-if (sizing_refusal sizes codes floats) (sheet_plan p sizes codes) plan e

  -- and a refusal has the sheet's number, which is not 0
  pub refused-is : (e : Refusal) → sizing_of p sizes codes floats ≡ Err e → (paper_number e ≡ 0 → ⊥) × (paper_number e ≡ sizing_refusal sizes codes floats)
  unfolding sizing_of
  refused-is e same = refused-if (sizing_refusal sizes codes floats) (sheet_plan p sizes codes) e named same

  pub sizing-refused : (sizing_refusal sizes codes floats ≡ 0 → ⊥) → sizing_of p sizes codes floats ≡ Err (refusal_of (sizing_refusal sizes codes floats))
  unfolding sizing_of planned_if
  sizing-refused h = rw (ne_eqb _ 0 h)

  -- a sheet that sizing takes
  module _ (e : sizing_refusal sizes codes floats ≡ 0) where
    pub sizing-taken : sizing_of p sizes codes floats ≡ Ok (sheet_plan p sizes codes)
    unfolding sizing_of planned_if
    sizing-taken = rw (eq-eqb _ 0 e)

    shaped : shape_refusal sizes codes (length floats) ≡ 0
    shaped = (first-none _ _ (sym (sizing-first sizes codes floats) ∙ e)).0

    pub sizing-accepted : Accepted (links_of sizes) codes floats
    sizing-accepted = arms-passed sizes codes floats shaped

    pub plan-small : Small (sheet_plan p sizes codes)
    unfolding plan_of
    plan-small =
        let ns = links_of sizes in
        let a : Accepted ns codes floats = sizing-accepted in
        let links : total ns ≤ 64 = omega (arith, a.whole, a.links) in
        record {
          positions = omega (arith, positions-most ns a.chains.few links);
          rotations = omega (arith, rotations-most ns a.chains.few links);
          objectives =
              omega (arith, objectives-few ns codes (record { whole = a.whole; few = a.few }) (shape_two sizes codes (length floats) (shape-passed sizes codes (length floats) shaped)) p);
          entries = omega (arith, entries-most ns codes a.whole a.links);
        }
