use mathlib.Core.Path.{◌≡◌, ap, ◌∙◌}
use mathlib.Core.List.{List}
use Prim.Native.Nat.{ℕ, ◌+◌, ◌*◌, ◌≤◌}
use native.Mathlib.Nat.{mul-le-mul_right}
use native.Mathlib.Omega.{arith}
use lib.ListN.{length}
use Rattle.lists.specs.Splice.{splice}
use Rattle.lists.specs.Runs.{runs, length_runs, splice-none, splice-turn-at}
use Rattle.objective_master.specs.Objective.{goal_width}
use Rattle.objective_master.specs.Kinds.{goal_kinds, goal-kinds}
use Rattle.objective_master.proofs.relaxed_ik.put_goals.Goals as goal

pub loop-c-init : goal.loop-c-init
loop-c-init c = splice-none (λ _. goal_kinds c.args.picks.strict) _ 0 0

pub put_goal-requires : goal.put_goal-requires
put_goal-requires c =
    let w = goal_width c.args.picks.strict in
    let fit : (c.loop-c.c + 1) * w ≤ c.args.chains * w = mul-le-mul_right w (omega arith) in
    let z : (c.loop-c.c + 1) * w ≡ c.loop-c.c * w + w = omega arith in
    omega (arith, c.requires, c.goals_to-at.ensures.0)

pub loop-c-preserved : goal.loop-c-preserved
loop-c-preserved c =
    let a = c.args in
    let strict = a.picks.strict in
    let w = goal_width strict in
    let f : ℕ → List ℕ = λ _. goal_kinds strict in
    let k = c.loop-c.c in
    let at = c.goals_to-at.result in
    let q : at ≡ k * w = c.goals_to-at.ensures.0 in
    let fit : (k + 1) * w ≤ a.chains * w = mul-le-mul_right w (omega arith) in
    let z : (k + 1) * w ≡ k * w + w = omega arith in
    let n : length (runs f 0 k) ≡ k * w = length_runs f w (λ _. goal-kinds strict) 0 k in
    splice-turn-at f a.kinds.now c.loop-c.kinds _ 0 at k c.loop-c.invariant (omega arith) (omega (arith, c.requires)) c.put_goal.ensures

pub returns : goal.returns
returns c =
    let a = c.args in
    let e : c.loop-c.c ≡ a.chains = omega (arith, c.requires) in
    c.loop-c.invariant ∙ ap (λ (k : ℕ). splice a.kinds.now 0 (runs (λ _. goal_kinds a.picks.strict) 0 k)) e
