-- `agrees` meets its contract: by the call's number.
use native.Mathlib.Omega.{arith}
use borrow.Author.Tests.{eq-eqb, ne_eqb, lt-ltb, le-ltb}
use Rattle.sequences.specs.Asked.{call_agrees, step_agrees}
use Rattle.sequences.proofs.steps.agrees.Goals as goal

pub returns-in-0-to-4 : goal.returns-in-0-to-4
unfolding step_agrees call_agrees
returns-in-0-to-4 c = let n = c.call-call.result in rw (← c.call-call.ensures.0, lt-ltb n 5 (omega arith)) c.changed.ensures

pub returns-in-5-to-10 : goal.returns-in-5-to-10
unfolding step_agrees call_agrees
returns-in-5-to-10 c = let n = c.call-call.result in rw (← c.call-call.ensures.0, le-ltb n 5 (omega arith), lt-ltb n 11 (omega arith)) c.asked_stored.ensures

pub returns-in-11 : goal.returns-in-11
unfolding step_agrees call_agrees
returns-in-11 c = let n = c.call-call.result in rw (← c.call-call.ensures.0, le-ltb n 5 (omega arith), le-ltb n 11 (omega arith), eq-eqb n 11 (c.in-11.is)) c.gradient_one_block.ensures

pub returns-in-12 : goal.returns-in-12
unfolding step_agrees call_agrees
returns-in-12 c = let n = c.call-call.result in rw (← c.call-call.ensures.0, le-ltb n 5 (omega arith), le-ltb n 11 (omega arith), ne_eqb n 11 (omega arith), eq-eqb n 12 (c.in-12.is)) c.kept.ensures

pub returns-in_default : goal.returns-in_default
unfolding step_agrees call_agrees
returns-in_default c = let n = c.call-call.result in rw (← c.call-call.ensures.0, le-ltb n 5 (omega arith), le-ltb n 11 (omega arith), ne_eqb n 11 (omega arith), ne_eqb n 12 (omega arith)) c.changed-in_default.ensures
