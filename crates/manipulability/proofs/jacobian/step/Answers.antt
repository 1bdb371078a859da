-- `step` meets its contract: a link that turns has a joint, and so a column and an axis.
use mathlib.Core.Path.{◌≡◌, sym, ◌∙◌}
use mathlib.Core.Bool.{true}
use native.Mathlib.Omega.{arith}
use Rattle.manipulability.specs.Jacobian.{turns_at, step_at, turns-joint}
use Rattle.manipulability.proofs.jacobian.step.Goals as goal

pub bounds-axes-c : goal.bounds-axes-c
bounds-axes-c c =
    let turning : turns_at c.args.codes.now c.args.link ≡ true = sym c.turns.ensures ∙ c.if-turns.true in
    let a = c.args in omega (arith, turns-joint a.codes.now a.link (turning))

pub fill_column-requires : goal.fill_column-requires
fill_column-requires c =
    let turning : turns_at c.args.codes.now c.args.link ≡ true = sym c.turns.ensures ∙ c.if-turns.true in
    omega (arith, c.requires, turns-joint c.args.codes.now c.args.link (turning))

pub returns-then-turns : goal.returns-then-turns
unfolding step_at
returns-then-turns c =
    let turning : turns_at c.args.codes.now c.args.link ≡ true = sym c.turns.ensures ∙ c.if-turns.true in
    rw (turning) c.fill_column.ensures

pub returns : goal.returns
unfolding step_at
returns c = rw (← c.turns.ensures, c.if-turns.false)
