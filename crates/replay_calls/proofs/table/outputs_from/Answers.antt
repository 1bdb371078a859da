-- `outputs_from` meets its contract: by the call's number.
use native.Mathlib.Omega.{arith}
use borrow.Author.Tests.{ne_eqb}
use Rattle.replay_calls.specs.Table.{outputs_from}
use Rattle.replay_calls.proofs.table.outputs_from.Goals as goal

pub returns-in-0 : goal.returns-in-0
unfolding outputs_from
returns-in-0 c = (rw c.in-0.is, omega arith)

pub returns-in-1 : goal.returns-in-1
unfolding outputs_from
returns-in-1 c = (rw c.in-1.is, omega arith)

pub returns-in-2 : goal.returns-in-2
unfolding outputs_from
returns-in-2 c = (rw c.in-2.is, omega arith)

pub returns-in-3 : goal.returns-in-3
unfolding outputs_from
returns-in-3 c = (rw c.in-3.is, omega arith)

pub returns-in-4 : goal.returns-in-4
unfolding outputs_from
returns-in-4 c = (rw c.in-4.is, omega arith)

pub returns-in-5 : goal.returns-in-5
unfolding outputs_from
returns-in-5 c = (rw c.in-5.is, omega arith)

pub returns-in-6 : goal.returns-in-6
unfolding outputs_from
returns-in-6 c = (rw c.in-6.is, omega arith)

pub returns-in-7 : goal.returns-in-7
unfolding outputs_from
returns-in-7 c = (rw c.in-7.is, omega arith)

pub returns-in-8 : goal.returns-in-8
unfolding outputs_from
returns-in-8 c = (rw c.in-8.is, omega arith)

pub returns-in-9 : goal.returns-in-9
unfolding outputs_from
returns-in-9 c = (rw c.in-9.is, omega arith)

pub returns-in-10 : goal.returns-in-10
unfolding outputs_from
returns-in-10 c = (rw c.in-10.is, omega arith)

pub returns-in-41 : goal.returns-in-41
unfolding outputs_from
returns-in-41 c = (rw c.in-41.is, omega arith)

pub returns-in-42 : goal.returns-in-42
unfolding outputs_from
returns-in-42 c = (rw c.in-42.is, omega arith)

pub returns-in-43 : goal.returns-in-43
unfolding outputs_from
returns-in-43 c = (rw c.in-43.is, omega arith)

pub returns-in_default : goal.returns-in_default
unfolding outputs_from
returns-in_default c = (rw (ne_eqb c.args.call 0 (omega arith), ne_eqb c.args.call 1 (omega arith), ne_eqb c.args.call 2 (omega arith), ne_eqb c.args.call 3 (omega arith), ne_eqb c.args.call 4 (omega arith), ne_eqb c.args.call 5 (omega arith), ne_eqb c.args.call 6 (omega arith), ne_eqb c.args.call 7 (omega arith), ne_eqb c.args.call 8 (omega arith), ne_eqb c.args.call 9 (omega arith), ne_eqb c.args.call 10 (omega arith), ne_eqb c.args.call 41 (omega arith), ne_eqb c.args.call 42 (omega arith), ne_eqb c.args.call 43 (omega arith)), omega arith)
