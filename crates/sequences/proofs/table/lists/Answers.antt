-- `lists` meets its contract: by the call's number.
use native.Mathlib.Omega.{arith}
use borrow.Author.Tests.{ne_eqb}
use Rattle.sequences.specs.Table.{lists_of}
use Rattle.sequences.proofs.table.lists.Goals as goal

pub returns-in-0 : goal.returns-in-0
unfolding lists_of
returns-in-0 c = (rw c.in-0.is, omega arith)

pub returns-in-1 : goal.returns-in-1
unfolding lists_of
returns-in-1 c = (rw c.in-1.is, omega arith)

pub returns-in-2 : goal.returns-in-2
unfolding lists_of
returns-in-2 c = (rw c.in-2.is, omega arith)

pub returns-in-3 : goal.returns-in-3
unfolding lists_of
returns-in-3 c = (rw c.in-3.is, omega arith)

pub returns-in-4 : goal.returns-in-4
unfolding lists_of
returns-in-4 c = (rw c.in-4.is, omega arith)

pub returns-in-5 : goal.returns-in-5
unfolding lists_of
returns-in-5 c = (rw c.in-5.is, omega arith)

pub returns-in-6 : goal.returns-in-6
unfolding lists_of
returns-in-6 c = (rw c.in-6.is, omega arith)

pub returns-in-7 : goal.returns-in-7
unfolding lists_of
returns-in-7 c = (rw c.in-7.is, omega arith)

pub returns-in-8 : goal.returns-in-8
unfolding lists_of
returns-in-8 c = (rw c.in-8.is, omega arith)

pub returns-in-9 : goal.returns-in-9
unfolding lists_of
returns-in-9 c = (rw c.in-9.is, omega arith)

pub returns-in-10 : goal.returns-in-10
unfolding lists_of
returns-in-10 c = (rw c.in-10.is, omega arith)

pub returns-in-11 : goal.returns-in-11
unfolding lists_of
returns-in-11 c = (rw c.in-11.is, omega arith)

pub returns-in-12 : goal.returns-in-12
unfolding lists_of
returns-in-12 c = (rw c.in-12.is, omega arith)

pub returns-in-13 : goal.returns-in-13
unfolding lists_of
returns-in-13 c = (rw c.in-13.is, omega arith)

pub returns-in_default : goal.returns-in_default
unfolding lists_of
returns-in_default c =
    (rw (ne_eqb c.args.call 0 (omega arith), ne_eqb c.args.call 1 (omega arith), ne_eqb c.args.call 2 (omega arith), ne_eqb c.args.call 3 (omega arith), ne_eqb c.args.call 4 (omega arith), ne_eqb c.args.call 5 (omega arith), ne_eqb c.args.call 6 (omega arith), ne_eqb c.args.call 7 (omega arith), ne_eqb c.args.call 8 (omega arith), ne_eqb c.args.call 9 (omega arith), ne_eqb c.args.call 10 (omega arith), ne_eqb c.args.call 11 (omega arith), ne_eqb c.args.call 12 (omega arith), ne_eqb c.args.call 13 (omega arith)), omega arith)
