-- `outcome` meets its contract: by the call's number.
use native.Mathlib.Omega.{arith}
use mathlib.Core.Path.{ap}
use borrow.Author.Tests.{ne_eqb}
use Rattle.state_calls.specs.declared.state.State.{State}
use Rattle.sequences.specs.Changes.{outcome_at}
use Rattle.sequences.proofs.changes.outcome.Goals as goal

pub returns-in-0 : goal.returns-in-0
unfolding outcome_at
returns-in-0 c = rw c.in-0.is (ap (λ (x : State). record { number = 0; state = x }) c.empty.ensures)

pub returns-in-1 : goal.returns-in-1
unfolding outcome_at
returns-in-1 c = rw c.in-1.is c.load_stored.ensures

pub returns-in-2 : goal.returns-in-2
unfolding outcome_at
returns-in-2 c = rw c.in-2.is c.set_goals.ensures

pub returns-in-3 : goal.returns-in-3
unfolding outcome_at
returns-in-3 c = rw c.in-3.is c.reset.ensures

pub returns-in-4 : goal.returns-in-4
unfolding outcome_at
returns-in-4 c = rw c.in-4.is c.update.ensures

pub returns-in-13 : goal.returns-in-13
unfolding outcome_at
returns-in-13 c = rw c.in-13.is c.set_weights.ensures

pub returns-in-14 : goal.returns-in-14
unfolding outcome_at
returns-in-14 c = rw c.in-14.is c.set_tool.ensures

pub returns-in_default : goal.returns-in_default
unfolding outcome_at
returns-in_default c =
    rw (ne_eqb c.args.call 0 (omega arith), ne_eqb c.args.call 1 (omega arith), ne_eqb c.args.call 2 (omega arith), ne_eqb c.args.call 3 (omega arith), ne_eqb c.args.call 4 (omega arith), ne_eqb c.args.call 13 (omega arith), ne_eqb c.args.call 14 (omega arith))
