-- The objective and its gradients, by the state.
use Rattle.std.specs.Prelude.{◌≡◌, Bool, true, ℕ, Float, take}
use Rattle.std.proofs.Math.Path.{refl, ap}
use Rattle.std.proofs.Common.{◌∙◌, arith, take_all}
use mathlib.Core.List.{List}
use Rattle.std.proofs.Math.ListN.{length}
use Rattle.lists.specs.Splice.{splice}
use Rattle.task.specs.declared.picks.Picks.{Picks}
use Rattle.task.specs.Task.{task_length, Given, given_of}
use Rattle.task.specs.Laid.{Apart, Fit, Full, laid, given_apart, laid-given}
use Rattle.objective_master.specs.Weights.{in-force-eight}
use Rattle.gradient.specs.declared.slopes.Rule.{Rule}
use Rattle.gradient.specs.Gradient.{value_at, slopes_of, gradient_of, finite_diff_of}
use Rattle.calls.specs.Arms.{Accepted, if_taken}
use Rattle.calls.specs.Answer.{value_if}
use Rattle.state_calls.specs.declared.state.State.{State}
use Rattle.state_calls.specs.declared.state.InUse.{InUse}
use Rattle.state_calls.specs.State.{links_used, codes_used, floats_used, limits_used, tools_used, goals_used, block_used, have_sheet, IsInUse}
use Rattle.state_calls.specs.StoredSheet.{stored-accepted}
use Rattle.state_calls.specs.StoredTask.{objective_stored, slopes_stored, after_state, given_stored, weights_in_force, apart_of, state-have, value-under, taken-under}

-- what the objectives look at: the sheet, the weights in force, of the stored lists what is in use, and what the caller picked
unfoldable pub given_state : State → Bool → Given
given_state s strict =
    let ss = s.arms.sizes in
    let cs = s.arms.codes in
    let h = s.party.history in
    record {
      counts = links_used ss;
      codes = codes_used ss cs;
      weights = weights_in_force s.weights;
      limits = limits_used ss cs s.arms.limits;
      goals = goals_used ss s.party.goals;
      xopt = block_used ss cs h.xopt;
      prev_state = block_used ss cs h.prev_state;
      prev_state2 = block_used ss cs h.prev_state2;
      tools = tools_used ss s.arms.tools;
      picks = record { strict = strict };
    }

abbrev pub link_floats : State → List Float
link_floats s = floats_used s.arms.sizes s.arms.floats

-- the objective's number, and its value of the list that is picked
abbrev pub objective_number_of : State → List Float → ℕ
objective_number_of s x = objective_stored s.arms.sizes s.arms.codes s.party.has_goals s.party.started x

abbrev pub objective_value_of : State → Bool → List Float → Float
objective_value_of s strict x = value_at (given_state s strict) (link_floats s) x

-- the number of either gradient, lent scratch and slopes of so many floats; and the slopes of each
abbrev pub gradient_number_of : State → List Float → ℕ → ℕ → ℕ
gradient_number_of s x scratch slopes = slopes_stored s.arms.sizes s.arms.codes s.party.has_goals s.party.started x scratch slopes

abbrev pub gradient_slopes_of : State → Bool → List Float → List Float
gradient_slopes_of s strict x = gradient_of (given_state s strict) (link_floats s) x

abbrev pub finite_diff_slopes_of : State → Bool → List Float → List Float
finite_diff_slopes_of s strict x = finite_diff_of (given_state s strict) (link_floats s) x

-- the lengths of the state's arrays that the objective reads
pub record Lists (s : State) : Type 0 where
  pub sizes : length s.arms.sizes ≡ 5
  pub codes : length s.arms.codes ≡ 64
  pub floats : length s.arms.floats ≡ 448
  pub limits : length s.arms.limits ≡ 32
  pub tools : length s.arms.tools ≡ 32
  pub weights : length s.weights.list ≡ 8
  pub goals : length s.party.goals ≡ 52
  pub xopt : length s.party.history.xopt ≡ 16
  pub prev_state : length s.party.history.prev_state ≡ 16
  pub prev_state2 : length s.party.history.prev_state2 ≡ 16

-- ---- laws: a call that is taken sees this in the list that the stored arrays are laid in
weights-whole : (s : State) → Lists s → length (weights_in_force s.weights) ≡ 8
weights-whole s l = in-force-eight s.weights.loaded s.weights.list l.weights

given-apart : (s : State) (picks : Picks) → Lists s → given_apart (links_used s.arms.sizes) (codes_used s.arms.sizes s.arms.codes) (apart_of s.weights s.arms.limits s.arms.tools s.party) picks ≡ given_state s picks.strict
unfolding given_apart given_state limits_used tools_used goals_used block_used
given-apart s picks l =
    let e : take 8 (weights_in_force s.weights) ≡ weights_in_force s.weights = take_all 8 _ (omega (arith, weights-whole s l)) in
    rw e

module _ (s : State) (picks : Picks) (t task : List Float) (l : Lists s) (whole : length t ≡ task_length) (e : task ≡ laid (apart_of s.weights s.arms.limits s.arms.tools s.party) t) where
  abbrev ss : List ℕ
  ss = s.arms.sizes

  abbrev cs : List ℕ
  cs = s.arms.codes

  given-laid : have_sheet ss cs ≡ true → given_stored ss cs task picks ≡ given_state s picks.strict
  unfolding given_stored
  given-laid have =
      let a : Apart = apart_of s.weights s.arms.limits s.arms.tools s.party in
      let w : length (weights_in_force s.weights) ≡ 8 = weights-whole s l in
      let p : Accepted (links_used ss) (codes_used ss cs) (floats_used ss s.arms.floats) = stored-accepted ss cs s.arms.floats l.codes l.floats have in
      let fit : Fit a = record { weights = omega (arith, w); limits = omega (arith, l.limits); goals = omega (arith, l.goals); xopt = omega (arith, l.xopt); prev_state = omega (arith, l.prev_state); prev_state2 = omega (arith, l.prev_state2); tools = omega (arith, l.tools) } in
      let full : Full (links_used ss) (codes_used ss cs) a = record { weights = omega (arith, w); limits = omega (arith, l.limits, p.few); goals = omega (arith, l.goals, p.chains.few); xopt = omega (arith, l.xopt, p.few); prev_state = omega (arith, l.prev_state, p.few); prev_state2 = omega (arith, l.prev_state2, p.few); tools = omega (arith, l.tools, p.chains.few) } in
      ap (λ (k : List Float). given_stored ss cs k picks) e ∙ laid-given a t whole fit (links_used ss) (codes_used ss cs) picks full p.chains.few p.few ∙ given-apart s picks l

  -- so does a call with number n, whose own number is m
  module _ (x : List Float) (m n : ℕ) (number : n ≡ after_state ss cs s.party.has_goals s.party.started m) where
    given-taken : n ≡ 0 → given_stored ss cs task picks ≡ given_state s picks.strict
    given-taken z = given-laid (state-have ss cs s.party.has_goals s.party.started m n number z)

    pub value-laid : value_if n (value_at (given_stored ss cs task picks) (link_floats s) x) ≡ value_if n (objective_value_of s picks.strict x)
    value-laid = value-under n _ _ (λ z. ap (λ (g : Given). value_at g (link_floats s) x) (given-taken z))

    pub slopes-laid : (rule : Rule) (old : List Float)
        → if_taken n old (splice old 0 (slopes_of rule (given_stored ss cs task picks) (link_floats s) x)) ≡ if_taken n old (splice old 0 (slopes_of rule (given_state s picks.strict) (link_floats s) x))
    slopes-laid rule old = taken-under n old _ _ (λ z. ap (λ (g : Given). splice old 0 (slopes_of rule g (link_floats s) x)) (given-taken z))

  -- so does a call on what is in use of the sheet
  module _ (u : InUse) (i : IsInUse s.arms u) (x : List Float) where
    given-in-use : given_of u.counts.now u.codes.now task picks ≡ given_state s picks.strict
    unfolding given_stored
    given-in-use = rw (i.counts, i.codes) (given-laid i.have)

    pub value-in-use : value_at (given_of u.counts.now u.codes.now task picks) u.floats.now x ≡ objective_value_of s picks.strict x
    value-in-use = rw (given-in-use, i.floats) refl

    pub slopes-in-use : (rule : Rule) → slopes_of rule (given_of u.counts.now u.codes.now task picks) u.floats.now x ≡ slopes_of rule (given_state s picks.strict) (link_floats s) x
    slopes-in-use rule = rw (given-in-use, i.floats) refl
