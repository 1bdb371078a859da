-- The objective and its gradients on stored goals, history, weights and tools: their numbers, and what they look at.
use Rattle.std.specs.Prelude.{◌≡◌, refl, Bool, true, false, cond, ℕ, ◌*◌, eqb, Float, get_or}
use Rattle.std.proofs.Math.Path.{sym, ap, subst}
use Rattle.std.proofs.Common.{◌∙◌, arith, eqb-true}
use mathlib.Core.List.{List}
use Rattle.std.specs.Float.{nan}
use Rattle.std.proofs.Math.ListN.{length}
use Rattle.std.proofs.Math.Seq.{length-take-le}
use Rattle.sheet.specs.Chain.{total}
use Rattle.task.specs.declared.picks.Picks.{Picks}
use Rattle.task.specs.Task.{task_length, Given, given_of}
use Rattle.task.specs.Laid.{Apart, apart}
use Rattle.refusals.specs.Lowest.{first_of, first-zero, first_some, first-none}
use Rattle.refusals.specs.Refusal.{shape_refusal, block_refusal}
use Rattle.objective_master.specs.Weights.{in_force}
use Rattle.gradient.specs.Gradient.{value_at, gradient_of}
use Rattle.calls.specs.Arms.{if_taken}
use Rattle.calls.specs.Answer.{value_if}
use Rattle.calls.specs.AcceptedTask.{AcceptedTask, slopes_refusal, shape-task}
use Rattle.state_calls.specs.State.{sizes_used, links_used, codes_used, floats_used, have_sheet, IsInUse, Stored, stored}
use Rattle.state_calls.specs.StoredSheet.{drop-take}
use Rattle.state_calls.specs.declared.state.Weights.{Weights}
use Rattle.state_calls.specs.declared.state.Party.{Party}
use Rattle.state_calls.specs.declared.state.Arms.{Arms}
use Rattle.state_calls.specs.declared.state.InUse.{InUse}

-- 20 without arms, then 21 without goals, then 22 without a reset since loading
unfoldable pub state_number : Bool → Bool → Bool → ℕ
state_number arms goals started = cond arms (cond goals (cond started 0 22) 21) 20

-- the state's number, and where that is 0 the call's own
unfoldable pub after_state : List ℕ → List ℕ → Bool → Bool → ℕ → ℕ
after_state ss cs goals started number = first_of (state_number (have_sheet ss cs) goals started) number

-- 20, 21, 22, then 7
unfoldable pub objective_stored : List ℕ → List ℕ → Bool → Bool → List Float → ℕ
objective_stored ss cs goals started x = after_state ss cs goals started (block_refusal (codes_used ss cs) x)

-- 20, 21, 22, then 7, then 9
unfoldable pub slopes_stored : List ℕ → List ℕ → Bool → Bool → List Float → ℕ → ℕ → ℕ
slopes_stored ss cs goals started x scratch slopes = after_state ss cs goals started (slopes_refusal (codes_used ss cs) x scratch slopes)

-- what the objectives look at: the sheet in use, of the list what is in use, and what the caller picked
unfoldable pub given_stored : List ℕ → List ℕ → List Float → Picks → Given
given_stored ss cs task picks = given_of (links_used ss) (codes_used ss cs) task picks

-- the objective's value at block x
abbrev pub value_stored : List ℕ → List ℕ → List Float → List Float → Picks → List Float → Float
value_stored ss cs gs task picks x = value_at (given_stored ss cs task picks) (floats_used ss gs) x

-- its gradient there
abbrev pub gradient_stored : List ℕ → List ℕ → List Float → List Float → Picks → List Float → List Float
gradient_stored ss cs gs task picks x = gradient_of (given_stored ss cs task picks) (floats_used ss gs) x

-- the lengths of the stored arrays, and of the list
pub record Arrays (ss cs : List ℕ) (gs task : List Float) : Type 0 where
  pub sizes : length ss ≡ 5
  pub codes : length cs ≡ 64
  pub floats : length gs ≡ 448
  pub whole : length task ≡ task_length

-- the weights in force
abbrev pub weights_in_force : Weights → List Float
weights_in_force w = in_force w.loaded w.list

-- the lists that are laid: the weights in force, the limits, what the party has set, and the tools
abbrev pub apart_of : Weights → List Float → List Float → Party → Apart
apart_of w limits tools p = apart (weights_in_force w) limits p.goals p.history.xopt p.history.prev_state p.history.prev_state2 tools

-- ---- laws
state-arms : (arms goals started : Bool) → state_number arms goals started ≡ 0 → arms ≡ true
unfolding state_number
state-arms true goals started e = refl
state-arms false goals started e = absurd (omega arith)

-- a call with the state's number k and its own number m
module _ (ss cs : List ℕ) (goals started : Bool) (k : ℕ) (h : k ≡ state_number (have_sheet ss cs) goals started) where
  -- the state refuses
  pub state-refused : (m : ℕ) → (k ≡ 0 → ⊥) → k ≡ after_state ss cs goals started m
  unfolding after_state
  state-refused m z = sym (ap (λ (j : ℕ). first_of j m) (sym h) ∙ first_some k m z)

  -- or it has all that is asked
  pub state-passed : (m : ℕ) → k ≡ 0 → after_state ss cs goals started m ≡ m
  unfolding after_state
  state-passed m z = first-zero _ m (sym h ∙ z)

-- a call that is taken has arms
pub state-have : (ss cs : List ℕ) (goals started : Bool) (m number : ℕ) → number ≡ after_state ss cs goals started m → number ≡ 0 → have_sheet ss cs ≡ true
unfolding after_state
state-have ss cs goals started m number e z = state-arms (have_sheet ss cs) goals started (first-none _ _ (sym e ∙ z)).0

-- the parts that are lent are an accepted sheet's
module _ (ss cs : List ℕ) (gs task : List Float) (a : Arrays ss cs gs task) where
  stored-task : have_sheet ss cs ≡ true → AcceptedTask (links_used ss) (codes_used ss cs) task (floats_used ss gs)
  unfolding links_used sizes_used floats_used
  stored-task e =
      let s : Stored ss cs = stored ss cs e in
      let w : length (floats_used ss gs) ≡ 7 * total (links_used ss) = length-take-le _ gs (omega (arith, s.links, a.floats)) in
      let q : shape_refusal (sizes_used ss) (codes_used ss cs) (length (floats_used ss gs)) ≡ 0 = ap (shape_refusal (sizes_used ss) (codes_used ss cs)) w ∙ s.shape in
      subst (λ (ns : List ℕ). AcceptedTask ns (codes_used ss cs) task (floats_used ss gs)) (drop-take (get_or ss 0 0) ss)
      (shape-task (sizes_used ss) (codes_used ss cs) task (floats_used ss gs) a.whole q)

-- so a call that is taken hands on an accepted sheet's
pub in-use-task : (a : Arms) (u : InUse) (task : List Float) → length a.sizes ≡ 5 → length a.codes ≡ 64 → length a.floats ≡ 448 → length task ≡ task_length → IsInUse a u
    → AcceptedTask u.counts.now u.codes.now task u.floats.now
in-use-task a u task ls lc lg lt i =
    rw (i.counts, i.codes, i.floats) (stored-task a.sizes a.codes a.floats task (record { sizes = ls; codes = lc; floats = lg; whole = lt }) i.have)

-- ---- laws: of a call that is refused nothing is asked
cond-under : {A : Type 0} (t : Bool) (a b c : A) → (t ≡ true → a ≡ b) → cond t a c ≡ cond t b c
cond-under true a b c h = h refl
cond-under false a b c h = refl

pub value-under : (n : ℕ) (u v : Float) → (n ≡ 0 → u ≡ v) → value_if n u ≡ value_if n v
unfolding value_if
value-under n u v h = cond-under (eqb n 0) u v nan (λ e. h (eqb-true n 0 e))

pub taken-under : {A : Type 0} (n : ℕ) (old new same : List A) → (n ≡ 0 → new ≡ same) → if_taken n old new ≡ if_taken n old same
unfolding if_taken
taken-under n old new same h = cond-under (eqb n 0) new same old (λ e. h (eqb-true n 0 e))
