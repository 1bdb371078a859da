-- `agrees` meets its contract: by the call's number.
use native.Mathlib.Omega.{arith}
use borrow.Author.Tests.{eq-eqb, ne_eqb, lt-ltb, le-ltb}
use Rattle.replay.specs.Cases.{call_agrees, record_agrees}
use Rattle.replay.proofs.cases.agrees.Goals as goal

pub returns-in-0 : goal.returns-in-0
unfolding record_agrees call_agrees
returns-in-0 c = let n = c.call-call.result in rw (← c.call-call.ensures.0, eq-eqb n 0 (c.in-0.is)) c.load.ensures

pub returns-in-1 : goal.returns-in-1
unfolding record_agrees call_agrees
returns-in-1 c = let n = c.call-call.result in rw (← c.call-call.ensures.0, ne_eqb n 0 (omega arith), eq-eqb n 1 (c.in-1.is)) c.set_goals.ensures

pub returns-in-2-to-5 : goal.returns-in-2-to-5
unfolding record_agrees call_agrees
returns-in-2-to-5 c = let n = c.call-call.result in rw (← c.call-call.ensures.0, ne_eqb n 0 (omega arith), ne_eqb n 1 (omega arith), lt-ltb n 6 (omega arith)) c.one_output.ensures

pub returns-in-6-to-7 : goal.returns-in-6-to-7
unfolding record_agrees call_agrees
returns-in-6-to-7 c = let n = c.call-call.result in rw (← c.call-call.ensures.0, ne_eqb n 0 (omega arith), ne_eqb n 1 (omega arith), le-ltb n 6 (omega arith), lt-ltb n 8 (omega arith)) c.two_outputs.ensures

pub returns-in-8-to-9 : goal.returns-in-8-to-9
unfolding record_agrees call_agrees
returns-in-8-to-9 c = let n = c.call-call.result in rw (← c.call-call.ensures.0, ne_eqb n 0 (omega arith), ne_eqb n 1 (omega arith), le-ltb n 6 (omega arith), le-ltb n 8 (omega arith), lt-ltb n 10 (omega arith)) c.three_outputs.ensures

pub returns-in-10 : goal.returns-in-10
unfolding record_agrees call_agrees
returns-in-10 c = let n = c.call-call.result in rw (← c.call-call.ensures.0, ne_eqb n 0 (omega arith), ne_eqb n 1 (omega arith), le-ltb n 6 (omega arith), le-ltb n 8 (omega arith), le-ltb n 10 (omega arith), eq-eqb n 10 (c.in-10.is)) c.five_outputs.ensures

pub returns-in-11-to-40 : goal.returns-in-11-to-40
unfolding record_agrees call_agrees
returns-in-11-to-40 c = let n = c.call-call.result in rw (← c.call-call.ensures.0, ne_eqb n 0 (omega arith), ne_eqb n 1 (omega arith), le-ltb n 6 (omega arith), le-ltb n 8 (omega arith), le-ltb n 10 (omega arith), ne_eqb n 10 (omega arith), ne_eqb n 41 (omega arith), ne_eqb n 42 (omega arith), ne_eqb n 43 (omega arith), lt-ltb n 44 (omega arith)) c.leaf.ensures

pub returns-in-41 : goal.returns-in-41
unfolding record_agrees call_agrees
returns-in-41 c = let n = c.call-call.result in rw (← c.call-call.ensures.0, ne_eqb n 0 (omega arith), ne_eqb n 1 (omega arith), le-ltb n 6 (omega arith), le-ltb n 8 (omega arith), le-ltb n 10 (omega arith), ne_eqb n 10 (omega arith), eq-eqb n 41 (c.in-41.is)) c.plan_output.ensures

pub returns-in-42 : goal.returns-in-42
unfolding record_agrees call_agrees
returns-in-42 c = let n = c.call-call.result in rw (← c.call-call.ensures.0, ne_eqb n 0 (omega arith), ne_eqb n 1 (omega arith), le-ltb n 6 (omega arith), le-ltb n 8 (omega arith), le-ltb n 10 (omega arith), ne_eqb n 10 (omega arith), ne_eqb n 41 (omega arith), eq-eqb n 42 (c.in-42.is)) c.set_weights.ensures

pub returns-in-43 : goal.returns-in-43
unfolding record_agrees call_agrees
returns-in-43 c = let n = c.call-call.result in rw (← c.call-call.ensures.0, ne_eqb n 0 (omega arith), ne_eqb n 1 (omega arith), le-ltb n 6 (omega arith), le-ltb n 8 (omega arith), le-ltb n 10 (omega arith), ne_eqb n 10 (omega arith), ne_eqb n 41 (omega arith), ne_eqb n 42 (omega arith), eq-eqb n 43 (c.in-43.is)) c.set_tool.ensures

pub returns-in_default : goal.returns-in_default
unfolding record_agrees call_agrees
returns-in_default c = let n = c.call-call.result in rw (← c.call-call.ensures.0, ne_eqb n 0 (omega arith), ne_eqb n 1 (omega arith), le-ltb n 6 (omega arith), le-ltb n 8 (omega arith), le-ltb n 10 (omega arith), ne_eqb n 10 (omega arith), ne_eqb n 41 (omega arith), ne_eqb n 42 (omega arith), ne_eqb n 43 (omega arith), le-ltb n 44 (omega arith)) c.leaf-in_default.ensures
