-- Each call on the state gets the lowest number of a condition that holds, the state's before the input's, and is accepted where none holds.
-- (Loading and setting weights ask no state: load-lowest and weights-lowest of refusals/specs/Rows.antt say it of them.)
use Rattle.std.specs.Prelude.{◌≡◌, Bool, true, false, cond, not, List, [], ◌∷◌, ℕ, Float, get_or}
use Rattle.std.proofs.Math.Path.{refl, ap}
use Rattle.std.proofs.Common.{sym, ◌∙◌, arith}
use Rattle.refusals.specs.Lowest.{first_of, first-zero, first_some}
use Rattle.refusals.specs.Rows.{Row, row, first_row, up_from, Numbered, numbered, block_row, goals_row, goals-row, tool_row, tool-row, alone}
use Rattle.calls.specs.Rows.{frames_rows, pose_rows, block-alone, frames-rows, pose-rows}
use Rattle.calls.specs.Rows.{slopes_rows, slopes-rows}
use Rattle.calls.specs.Rows.{one_block_rows, one-block-rows}
use Rattle.state_calls.specs.State.{links_used, codes_used, have_sheet}
use Rattle.state_calls.specs.StoredSheet.{if_arms, frames_stored, pose_stored, block_stored, goals_stored, tool_stored, update_stored}
use Rattle.state_calls.specs.StoredTask.{state_number, after_state, objective_stored, slopes_stored}
use Rattle.state_calls.specs.OneBlock.{one_block_stored}

-- no arms loaded; no goals; no reset since loading
abbrev pub arms_row : List ℕ → List ℕ → Row
arms_row ss cs = row 20 (not (have_sheet ss cs))

abbrev pub goals_set_row : Bool → Row
goals_set_row goals = row 21 (not goals)

abbrev pub start_row : Bool → Row
start_row started = row 22 (not started)

arms-first : (ss cs : List ℕ) (n : ℕ) → if_arms ss cs n ≡ first_of (first_row (arms_row ss cs ∷ [])) n
unfolding if_arms first_row
arms-first ss cs n = pick (have_sheet ss cs)
  where
    pick : (t : Bool) → cond t n 20 ≡ first_of (cond (not t) 20 0) n
    pick true = sym (first-zero 0 n refl)
    pick false = sym (first_some 20 n (λ z. omega arith))

update-first : (ss cs : List ℕ) (started : Bool) (n : ℕ) → if_arms ss cs (cond started n 22) ≡ first_of (first_row (arms_row ss cs ∷ start_row started ∷ [])) n
unfolding if_arms first_row
update-first ss cs started n = pick (have_sheet ss cs) started
  where
    pick : (t u : Bool) → cond t (cond u n 22) 20 ≡ first_of (cond (not t) 20 (cond (not u) 22 0)) n
    pick true true = sym (first-zero 0 n refl)
    pick true false = sym (first_some 22 n (λ z. omega arith))
    pick false u = sym (first_some 20 n (λ z. omega arith))

state-first : (ss cs : List ℕ) (goals started : Bool) (n : ℕ)
    → after_state ss cs goals started n ≡ first_of (first_row (arms_row ss cs ∷ goals_set_row goals ∷ start_row started ∷ [])) n
unfolding after_state state_number first_row
state-first ss cs goals started n = ap (λ (k : ℕ). first_of k n) (pick (have_sheet ss cs) goals started)
  where
    pick : (t u v : Bool) → state_number t u v ≡ first_row (row 20 (not t) ∷ row 21 (not u) ∷ row 22 (not v) ∷ [])
    pick true true true = refl
    pick true true false = refl
    pick true false v = refl
    pick false u v = refl

module _ (ss cs : List ℕ) where
  pub frames-numbered : (x : List Float) (p r : ℕ) → Numbered (arms_row ss cs ∷ []) (frames_rows (links_used ss) (codes_used ss cs) x p r) (frames_stored ss cs x p r)
  unfolding frames_stored up_from
  frames-numbered x p r = numbered _ _ _ refl refl (arms-first ss cs _ ∙ ap (first_of (first_row (arms_row ss cs ∷ []))) (frames-rows (links_used ss) (codes_used ss cs) x p r))

  pub pose-numbered : (x : List Float) (n : ℕ) → Numbered (arms_row ss cs ∷ []) (pose_rows (links_used ss) (codes_used ss cs) x n) (pose_stored ss cs x n)
  unfolding pose_stored up_from
  pose-numbered x n = numbered _ _ _ refl refl (arms-first ss cs _ ∙ ap (first_of (first_row (arms_row ss cs ∷ []))) (pose-rows (links_used ss) (codes_used ss cs) x n))

  -- reset and manipulability
  pub block-numbered : (x : List Float) → Numbered (arms_row ss cs ∷ []) (block_row (codes_used ss cs) x ∷ []) (block_stored ss cs x)
  unfolding block_stored up_from
  block-numbered x = numbered _ _ _ refl refl (arms-first ss cs _ ∙ ap (first_of (first_row (arms_row ss cs ∷ []))) (block-alone (codes_used ss cs) x))

  -- setting goals
  pub goals-numbered : (goals : List Float) → Numbered (arms_row ss cs ∷ []) (goals_row (get_or ss 0 0) goals ∷ []) (goals_stored ss cs goals)
  unfolding goals_stored up_from
  goals-numbered goals =
      numbered _ _ _ refl refl
      (arms-first ss cs _ ∙ ap (first_of (first_row (arms_row ss cs ∷ []))) (alone _ _ (goals-row (get_or ss 0 0) goals [])))

  -- setting a tool
  pub tool-numbered : (c : ℕ) (tool : List Float) → Numbered (arms_row ss cs ∷ []) (tool_row (get_or ss 0 0) c tool ∷ []) (tool_stored ss cs c tool)
  unfolding tool_stored up_from
  tool-numbered c tool =
      numbered _ _ _ refl refl
      (arms-first ss cs _ ∙ ap (first_of (first_row (arms_row ss cs ∷ []))) (alone _ _ (tool-row (get_or ss 0 0) c tool [])))

  pub update-numbered : (started : Bool) (x : List Float)
      → Numbered (arms_row ss cs ∷ start_row started ∷ []) (block_row (codes_used ss cs) x ∷ []) (update_stored ss cs started x)
  unfolding update_stored up_from
  update-numbered started x =
      numbered _ _ _ refl refl
      (update-first ss cs started _ ∙ ap (first_of (first_row (arms_row ss cs ∷ start_row started ∷ []))) (block-alone (codes_used ss cs) x))

  -- the objective
  pub objective-numbered : (goals started : Bool) (x : List Float)
      → Numbered (arms_row ss cs ∷ goals_set_row goals ∷ start_row started ∷ []) (block_row (codes_used ss cs) x ∷ []) (objective_stored ss cs goals started x)
  unfolding objective_stored up_from
  objective-numbered goals started x =
      numbered _ _ _ refl refl
      (state-first ss cs goals started _ ∙ ap (first_of (first_row (arms_row ss cs ∷ goals_set_row goals ∷ start_row started ∷ []))) (block-alone (codes_used ss cs) x))

  -- both gradients
  pub slopes-numbered : (goals started : Bool) (x : List Float) (scratch slopes : ℕ)
      → Numbered (arms_row ss cs ∷ goals_set_row goals ∷ start_row started ∷ []) (slopes_rows (codes_used ss cs) x scratch slopes) (slopes_stored ss cs goals started x scratch slopes)
  unfolding slopes_stored up_from
  slopes-numbered goals started x scratch slopes =
      numbered _ _ _ refl refl
      (state-first ss cs goals started _ ∙ ap (first_of (first_row (arms_row ss cs ∷ goals_set_row goals ∷ start_row started ∷ []))) (slopes-rows (codes_used ss cs) x scratch slopes))

  -- the gradient on one block
  pub one-block-numbered : (goals started : Bool) (x : List Float) (slopes rj rl rp : ℕ)
      → Numbered (arms_row ss cs ∷ goals_set_row goals ∷ start_row started ∷ []) (one_block_rows (links_used ss) (codes_used ss cs) x slopes rj rl rp)
      (one_block_stored ss cs goals started x slopes rj rl rp)
  unfolding one_block_stored up_from
  one-block-numbered goals started x slopes rj rl rp =
      numbered _ _ _ refl refl
      (state-first ss cs goals started _ ∙ ap (first_of (first_row (arms_row ss cs ∷ goals_set_row goals ∷ start_row started ∷ []))) (one-block-rows (links_used ss) (codes_used ss cs) x slopes rj rl rp))
