-- Setting a chain's tool. A refusal keeps the old state.
use Rattle.std.specs.Prelude.{◌≡◌, Bool, true, List, [], ◌∷◌, ℕ, ◌+◌, ◌-◌, ◌*◌, ◌≤◌, ◌<◌, Float, length, take, drop, get_or}
use Rattle.std.proofs.Math.Path.{refl, ap}
use Rattle.std.proofs.Common.{sym, ◌∙◌, ⊎_elim, add-zero, arith, ne_eqb, get_or-take}
use Rattle.std.specs.Float.{nan}
use Rattle.std.specs.Float.Ieee.{eq, of_bits}
use Rattle.lists.specs.Splice.{splice, length-splice, splice-splice, get_or-splice-in, get_or-splice-after, part-splice, take-splice-before}
use Rattle.standins.specs.Num.{one}
use Rattle.geometry.specs.declared.pose.Pose.{Pose}
use Rattle.sheet.specs.Chain.{below_or}
use Rattle.sheet.specs.Tool.{has_tool}
use Rattle.spacetime.specs.Tool.{tip_of, tip_same}
use Rattle.spacetime.specs.Frames.{ends_of}
use Rattle.spacetime.specs.Appended.{tool_floats}
use Rattle.refusals.specs.Passed.{tool-passed}
use Rattle.gradient.specs.declared.slopes.Rule.TheVariants.{EachLoss, WeightedSum}
use Rattle.gradient.specs.Gradient.{value_at, gradient_of, finite_diff_of}
use Rattle.calls.specs.Tools.{NoTool, bare, lasts_of, zeros-none, take_none, ends_last, value-bare, slopes-bare}
use Rattle.state_calls.specs.declared.state.Arms.{Arms}
use Rattle.state_calls.specs.declared.state.State.{State}
use Rattle.state_calls.specs.State.{links_used, tools_used, stored, empty_arms, empty_state}
use Rattle.state_calls.specs.Load.{Outcome, outcome_of, load_of}
use Rattle.state_calls.specs.StoredSheet.{tool_stored, there}
use Rattle.state_calls.specs.Arms.{poses_of}
use Rattle.state_calls.specs.Party.{set_goals_of, reset_state_of, update_state_of}
use Rattle.state_calls.specs.Objective.{given_state, link_floats, objective_value_of, gradient_slopes_of, finite_diff_slopes_of}
use Rattle.state_calls.specs.Planned.{set-goals-keeps-arms, reset-keeps-arms, update-keeps-arms, refused-load-keeps-arms}
use Rattle.state_calls.specs.Weights.{set_weights_of, set-weights-keeps-arms}

-- arms with a tool for chain c in place of the one before: eight floats, 1 and the list
unfoldable pub arms_with_tool : Arms → ℕ → List Float → Arms
arms_with_tool a c tool = record {
  sizes = a.sizes;
  codes = a.codes;
  floats = a.floats;
  limits = a.limits;
  tools = splice a.tools (8 * c) (one ∷ tool);
}

-- the state with it
unfoldable pub with_tool : State → ℕ → List Float → State
with_tool s c tool = record { arms = arms_with_tool s.arms c tool; weights = s.weights; party = s.party }

-- set_tool's number
abbrev pub set_tool_number_of : State → ℕ → List Float → ℕ
set_tool_number_of s c tool = tool_stored s.arms.sizes s.arms.codes c tool

-- set a tool: 20, then 11
unfoldable pub set_tool_of : State → ℕ → List Float → Outcome
set_tool_of s c tool = outcome_of (set_tool_number_of s c tool) s (with_tool s c tool)

-- ---- laws: what is accepted fits the array
pub tool-fits : (ss cs : List ℕ) (c : ℕ) (tool : List Float) → tool_stored ss cs c tool ≡ 0 → (c < 4) × (length tool ≡ 7)
unfolding tool_stored
tool-fits ss cs c tool e =
    let t = there ss cs _ e in
    let p = tool-passed _ c tool t.1 in
    (omega (arith, p.0, (stored ss cs t.0).few), p.1)

-- ---- laws: where there is no tool
-- at the start no chain has a tool
pub no-tools : NoTool empty_state.arms.tools
unfolding empty_state empty_arms
no-tools = zeros-none 32

module _ (s : State) (sizes codes : List ℕ) (floats limits : List Float) where
  -- a refused load keeps the tools
  pub refused-load-keeps-tools : ((load_of s sizes codes floats limits).number ≡ 0 → ⊥) → (load_of s sizes codes floats limits).state.arms.tools ≡ s.arms.tools
  refused-load-keeps-tools h = ap (λ (a : Arms). a.tools) (refused-load-keeps-arms s sizes codes floats limits h)

-- state s answers what it answered before there were tools, whichever list is picked: the objectives look at an empty list of tools (whose losses are those at the last frames:
-- `losses-last` of calls), the one-block gradient's slopes are the gradient's, and the end poses of pose and reset are the last frames
pub record AnsweredBare (s : State) : Type 0 where
  pub value : (strict : Bool) (x : List Float) → objective_value_of s strict x ≡ value_at (bare (given_state s strict)) (link_floats s) x
  pub slopes : (strict : Bool) (x : List Float) → gradient_slopes_of s strict x ≡ gradient_of (bare (given_state s strict)) (link_floats s) x
  pub finite-diff-slopes : (strict : Bool) (x : List Float) → finite_diff_slopes_of s strict x ≡ finite_diff_of (bare (given_state s strict)) (link_floats s) x
  pub ends : (x : List Float) → ends_of (links_used s.arms.sizes) s.arms.tools (poses_of s x) ≡ lasts_of (links_used s.arms.sizes) (poses_of s x)

-- where no chain has a tool every answer is the one before (numbers do not look at tools)
pub no-tool-set : (s : State) → NoTool s.arms.tools → AnsweredBare s
unfolding given_state tools_used
no-tool-set s none =
    let given : (strict : Bool) → NoTool (given_state s strict).tools = λ p. take_none (8 * length (links_used s.arms.sizes)) s.arms.tools none in
    record {
      value = λ p. value-bare (given_state s p) (given p) (link_floats s);
      slopes = λ p. slopes-bare (given_state s p) (given p) EachLoss (link_floats s);
      finite-diff-slopes = λ p. slopes-bare (given_state s p) (given p) WeightedSum (link_floats s);
      ends = λ x. ends_last (links_used s.arms.sizes) s.arms.tools (poses_of s x) none;
    }

-- ---- laws: a tool that is taken is the chain's, and the other chains keep theirs
-- of 32 floats: the chain has a tool, its eight floats are 1 and the list, every float before and after them is as it was, the seven that `tool-appended`
-- (spacetime) appends as a link are the list, and every other chain's end is followed by what it was followed by
pub record ToolSet (c : ℕ) (tool old new : List Float) : Type 0 where
  pub has : has_tool new c ≡ true
  pub eight : take 8 (drop (8 * c) new) ≡ one ∷ tool
  pub before : (i : ℕ) (d : Float) → i < 8 * c → get_or new i d ≡ get_or old i d
  pub after : (i : ℕ) (d : Float) → 8 * c + 8 ≤ i → get_or new i d ≡ get_or old i d
  pub seven : tool_floats new c ≡ tool
  pub others : (d : ℕ) (p : Pose) → (d ≡ c → ⊥) → tip_of new d p ≡ tip_of old d p

one-is : eq one one ≡ true
unfolding eq of_bits
one-is = refl

module _ (c : ℕ) (tool old : List Float) (whole : length old ≡ 32) (few : c < 4) (long : length tool ≡ 7) where
  abbrev new : List Float
  new = splice old (8 * c) (one ∷ tool)

  first : get_or new (8 * c) nan ≡ one
  first = ap (λ (j : ℕ). get_or new j nan) (sym (add-zero (8 * c))) ∙ get_or-splice-in old (8 * c) (one ∷ tool) 0 nan (omega arith) (omega arith)

  before-set : (i : ℕ) (d : Float) → i < 8 * c → get_or new i d ≡ get_or old i d
  before-set i d h =
      sym (get_or-take (8 * c) new i d h)
      ∙ ap (λ (l : List Float). get_or l i d) (take-splice-before old (8 * c) (8 * c) (one ∷ tool) (omega arith) (omega arith)) ∙ get_or-take (8 * c) old i d h

  after-set : (i : ℕ) (d : Float) → 8 * c + 8 ≤ i → get_or new i d ≡ get_or old i d
  after-set i d h =
      let k : 8 * c + length (one ∷ tool) + (i - (8 * c + 8)) ≡ i = omega arith in
      ap (λ (j : ℕ). get_or new j d) (sym k) ∙ get_or-splice-after old (8 * c) (one ∷ tool) (i - (8 * c + 8)) d (omega arith) ∙ ap (λ (j : ℕ). get_or old j d) k

  seven-set : tool_floats new c ≡ tool
  seven-set =
      ap (λ (l : List Float). take 7 (drop (8 * c + 1) l)) (sym (splice-splice old (8 * c) (8 * c + 1) (one ∷ []) tool refl (omega arith)))
      ∙ part-splice (splice old (8 * c) (one ∷ [])) (8 * c + 1) 7 tool (omega (arith, length-splice old (8 * c) (one ∷ []) (omega arith))) long

  others-set : (d : ℕ) (p : Pose) → (d ≡ c → ⊥) → tip_of new d p ≡ tip_of old d p
  others-set d p other =
      tip_same new old d p
      (λ i h. ⊎_elim (λ (l : d < c). before-set (8 * d + i) nan (omega arith)) (λ (l : c ≤ d). after-set (8 * d + i) nan (omega (arith, other))) (below_or d c))

  eight-set : ToolSet c tool old new
  unfolding has_tool
  eight-set = record {
    has = ap (λ (f : Float). eq f one) first ∙ one-is;
    eight = part-splice old (8 * c) 8 (one ∷ tool) (omega arith) (omega arith);
    before = before-set;
    after = after-set;
    seven = seven-set;
    others = others-set;
  }

module _ (s : State) (c : ℕ) (tool : List Float) where
  -- the state after a tool that is taken
  pub tool-taken : set_tool_number_of s c tool ≡ 0 → (set_tool_of s c tool).state ≡ with_tool s c tool
  unfolding set_tool_of outcome_of
  tool-taken e = rw e

  -- the chain has it, and no other chain's tool changed; the state's array has 32 floats
  pub tool-set : length s.arms.tools ≡ 32 → set_tool_number_of s c tool ≡ 0 → ToolSet c tool s.arms.tools (set_tool_of s c tool).state.arms.tools
  unfolding with_tool arms_with_tool
  tool-set whole e =
      let p = tool-fits _ _ c tool e in
      rw (tool-taken e) (eight-set c tool s.arms.tools whole p.0 p.1)

  -- one that is refused changes nothing
  pub tool-refused : (set_tool_number_of s c tool ≡ 0 → ⊥) → (set_tool_of s c tool).state ≡ s
  unfolding set_tool_of outcome_of
  tool-refused h = rw (ne_eqb (set_tool_number_of s c tool) 0 h)

-- ---- laws: all else is left alone, accepted or refused
-- arms of one sheet
pub record SameSheet (a b : Arms) : Type 0 where
  pub sizes : a.sizes ≡ b.sizes
  pub codes : a.codes ≡ b.codes
  pub floats : a.floats ≡ b.floats
  pub limits : a.limits ≡ b.limits

-- ---- laws: the other calls keep the tools, accepted or refused
module _ (s : State) (x : List Float) where
  pub set-goals-keeps-tools : (set_goals_of s x).state.arms.tools ≡ s.arms.tools
  set-goals-keeps-tools = ap (λ (a : Arms). a.tools) (set-goals-keeps-arms s x)

  pub reset-keeps-tools : (reset_state_of s x).state.arms.tools ≡ s.arms.tools
  reset-keeps-tools = ap (λ (a : Arms). a.tools) (reset-keeps-arms s x)

  pub update-keeps-tools : (update_state_of s x).state.arms.tools ≡ s.arms.tools
  update-keeps-tools = ap (λ (a : Arms). a.tools) (update-keeps-arms s x)

  pub set-weights-keeps-tools : (set_weights_of s x).state.arms.tools ≡ s.arms.tools
  set-weights-keeps-tools = ap (λ (a : Arms). a.tools) (set-weights-keeps-arms s x)
