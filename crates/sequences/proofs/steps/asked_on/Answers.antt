-- `asked_on` meets its contract: by the call's number.
use native.Mathlib.Omega.{arith}
use borrow.Author.Tests.{ne_eqb}
use Rattle.sequences.specs.Asked.{asked_agrees}
use Rattle.sequences.proofs.steps.asked_on.Goals as goal

pub returns-in-5 : goal.returns-in-5
unfolding asked_agrees
returns-in-5 c = rw c.in-5.is c.frames.ensures

pub returns-in-6 : goal.returns-in-6
unfolding asked_agrees
returns-in-6 c = rw c.in-6.is c.pose.ensures

pub returns-in-7 : goal.returns-in-7
unfolding asked_agrees
returns-in-7 c = rw c.in-7.is c.manipulability.ensures

pub returns-in-8 : goal.returns-in-8
unfolding asked_agrees
returns-in-8 c = rw c.in-8.is c.objective.ensures

pub returns-in-9 : goal.returns-in-9
unfolding asked_agrees
returns-in-9 c = rw c.in-9.is c.gradient.ensures

pub returns-in_default : goal.returns-in_default
unfolding asked_agrees
returns-in_default c =
    rw (ne_eqb c.args.call 5 (omega arith), ne_eqb c.args.call 6 (omega arith), ne_eqb c.args.call 7 (omega arith), ne_eqb c.args.call 8 (omega arith), ne_eqb c.args.call 9 (omega arith)) c.gradient_finite_diff.ensures
