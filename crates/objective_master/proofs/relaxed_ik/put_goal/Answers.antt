-- `put_goal` meets its contract: a list written to the front of a part.
use mathlib.Core.Path.{◌≡◌, sym, ap, ◌∙◌}
use mathlib.Core.Bool.{Bool}
use mathlib.Core.List.{List, ◌++◌}
use Prim.Native.Nat.{ℕ, ◌+◌, ◌-◌, ◌≤◌}
use native.Mathlib.Omega.{arith}
use lib.ListN.{length, take, drop}
use Rattle.lists.specs.Splice.{splice}
use Rattle.task.specs.Laid.{put-splice}
use Rattle.objective_master.specs.Objective.{goal_width}
use Rattle.objective_master.specs.Kinds.{goal_kinds}
use Rattle.objective_master.proofs.relaxed_ik.put_goal.Goals as goal

-- a list written to the front of the part from a place on
put-there : (t : List ℕ) (at : ℕ) (l ys : List ℕ) → at ≤ length t → l ≡ splice (take (length t - at) (drop at t)) 0 ys → at + length ys ≤ length t
    → take at t ++ (l ++ drop (length t - at) (drop at t)) ≡ splice t at ys
put-there t at l ys h e fit =
    ap (λ (m : List ℕ). take at t ++ (m ++ drop (length t - at) (drop at t))) e ∙ put-splice t at (length t - at) ys (omega arith) (omega arith)

pub copy-requires : goal.copy-requires
unfolding goal_width
copy-requires c = omega (arith, c.requires, ap goal_width c.if-picks.true)

pub returns-then-picks : goal.returns-then-picks
unfolding goal_kinds goal_width
returns-then-picks c =
    let a = c.args in
    put-there a.kinds.now a.at _ _ (omega (arith, c.requires)) c.copy.ensures (omega (arith, c.requires, ap goal_width c.if-picks.true))
    ∙ ap (λ (b : Bool). splice a.kinds.now a.at (goal_kinds b)) (sym c.if-picks.true)

pub copy-requires-2 : goal.copy-requires-2
unfolding goal_width
copy-requires-2 c = omega (arith, c.requires, ap goal_width c.if-picks.false)

pub returns : goal.returns
unfolding goal_kinds goal_width
returns c =
    let a = c.args in
    put-there a.kinds.now a.at _ _ (omega (arith, c.requires)) c.copy-2.ensures (omega (arith, c.requires, ap goal_width c.if-picks.false))
    ∙ ap (λ (b : Bool). splice a.kinds.now a.at (goal_kinds b)) (sym c.if-picks.false)
