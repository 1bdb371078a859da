-- `put_tolerance_losses` meets its contract: two runs that touch are one.
use mathlib.Core.Path.{ap, ◌∙◌}
use mathlib.Core.List.{List, ◌++◌}
use Prim.Native.Nat.{◌+◌}
use native.Mathlib.Omega.{arith}
use lib.Ieee.{Float}
use Rattle.lists.specs.Splice.{splice, splice-splice}
use Rattle.spacetime.specs.Floats.{flat_vec, vec-length}
use Rattle.objective_master.specs.Objective.{goal_width}
use Rattle.objective_master.specs.Losses.{off_losses}
use borrow.Author.Rules.{rules}
use Rattle.objective_master.proofs.losses.put_tolerance_losses.Goals as goal

pub put_vec-requires : goal.put_vec-requires
unfolding goal_width
put_vec-requires c = search rules

pub overflow_add-at : goal.overflow_add-at
unfolding goal_width
overflow_add-at c = search rules

pub put_vec-requires-2 : goal.put_vec-requires-2
unfolding goal_width
put_vec-requires-2 c = search rules

pub returns : goal.returns
unfolding goal_width
returns c =
    let a = c.args in
    let v = c.off_losses-offs.result in
    let w = c.turn_losses-turns.result in
    c.put_vec-2.ensures ∙ ap (λ (m : List Float). splice m (a.at + 3) (flat_vec w)) c.put_vec.ensures
    ∙ splice-splice a.out.now a.at (a.at + 3) (flat_vec v) (flat_vec w) (omega (arith, vec-length v)) (omega (arith, c.requires, vec-length v))
    ∙ ap (λ (m : List Float). splice a.out.now a.at (m ++ flat_vec w)) c.off_losses-offs.ensures
    ∙ ap (λ (m : List Float). splice a.out.now a.at (off_losses a.goals.now a.c a.end ++ m)) c.turn_losses-turns.ensures
