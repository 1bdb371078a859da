-- `outputs` meets its contract: by the call's number.
use native.Mathlib.Omega.{arith}
use borrow.Author.Tests.{lt-ltb, le-ltb, eq-eqb, ne_eqb}
use Rattle.replay_calls.specs.Table.{outputs_of}
use Rattle.replay_calls.proofs.table.outputs.Goals as goal

pub returns-in-0-to-1 : goal.returns-in-0-to-1
unfolding outputs_of
returns-in-0-to-1 c = let n = c.args.call in (rw (lt-ltb n 2 (omega arith)), omega arith)

pub returns-in-2-to-5 : goal.returns-in-2-to-5
unfolding outputs_of
returns-in-2-to-5 c = let n = c.args.call in (rw (le-ltb n 2 (omega arith), lt-ltb n 6 (omega arith)), omega arith)

pub returns-in-6-to-7 : goal.returns-in-6-to-7
unfolding outputs_of
returns-in-6-to-7 c = let n = c.args.call in (rw (le-ltb n 2 (omega arith), le-ltb n 6 (omega arith), lt-ltb n 8 (omega arith)), omega arith)

pub returns-in-8-to-9 : goal.returns-in-8-to-9
unfolding outputs_of
returns-in-8-to-9 c = let n = c.args.call in (rw (le-ltb n 2 (omega arith), le-ltb n 6 (omega arith), le-ltb n 8 (omega arith), lt-ltb n 10 (omega arith)), omega arith)

pub returns-in-10 : goal.returns-in-10
unfolding outputs_of
returns-in-10 c = let n = c.args.call in (rw (le-ltb n 2 (omega arith), le-ltb n 6 (omega arith), le-ltb n 8 (omega arith), le-ltb n 10 (omega arith), eq-eqb n 10 (c.in-10.is)), omega arith)

pub returns-in-11-to-41 : goal.returns-in-11-to-41
unfolding outputs_of
returns-in-11-to-41 c = let n = c.args.call in (rw (le-ltb n 2 (omega arith), le-ltb n 6 (omega arith), le-ltb n 8 (omega arith), le-ltb n 10 (omega arith), ne_eqb n 10 (omega arith), lt-ltb n 42 (omega arith)), omega arith)

pub returns-in-42-to-43 : goal.returns-in-42-to-43
unfolding outputs_of
returns-in-42-to-43 c = let n = c.args.call in (rw (le-ltb n 2 (omega arith), le-ltb n 6 (omega arith), le-ltb n 8 (omega arith), le-ltb n 10 (omega arith), ne_eqb n 10 (omega arith), le-ltb n 42 (omega arith), lt-ltb n 44 (omega arith)), omega arith)

pub returns-in_default : goal.returns-in_default
unfolding outputs_of
returns-in_default c = let n = c.args.call in (rw (le-ltb n 2 (omega arith), le-ltb n 6 (omega arith), le-ltb n 8 (omega arith), le-ltb n 10 (omega arith), ne_eqb n 10 (omega arith), le-ltb n 42 (omega arith), le-ltb n 44 (omega arith)), omega arith)
