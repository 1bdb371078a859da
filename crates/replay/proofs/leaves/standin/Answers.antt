-- `standin` meets its contract: by the call's number, and by what the calls of its arm ensure.
use native.Mathlib.Omega.{arith}
use borrow.Author.Tests.{ne_eqb}
use Rattle.replay.specs.Leaves.{standin_of}
use Rattle.replay.proofs.leaves.standin.Goals as goal

pub returns-in-11 : goal.returns-in-11
unfolding standin_of
returns-in-11 c = rw c.in-11.is (cc)

pub returns-in-12 : goal.returns-in-12
unfolding standin_of
returns-in-12 c = rw c.in-12.is (cc)

pub returns-in-13 : goal.returns-in-13
unfolding standin_of
returns-in-13 c = rw c.in-13.is (cc)

pub returns-in-14 : goal.returns-in-14
unfolding standin_of
returns-in-14 c = rw c.in-14.is (cc)

pub returns-in-15 : goal.returns-in-15
unfolding standin_of
returns-in-15 c = rw c.in-15.is (cc)

pub returns-in-16 : goal.returns-in-16
unfolding standin_of
returns-in-16 c = rw c.in-16.is (cc)

pub returns-in-17 : goal.returns-in-17
unfolding standin_of
returns-in-17 c = rw c.in-17.is (cc)

pub returns-in-18 : goal.returns-in-18
unfolding standin_of
returns-in-18 c = rw c.in-18.is (cc)

pub returns-in-19 : goal.returns-in-19
unfolding standin_of
returns-in-19 c = rw c.in-19.is (cc)

pub returns-in-20 : goal.returns-in-20
unfolding standin_of
returns-in-20 c = rw c.in-20.is (cc)

pub returns-in_default : goal.returns-in_default
unfolding standin_of
returns-in_default c =
    rw (ne_eqb c.args.call 11 (omega arith), ne_eqb c.args.call 12 (omega arith), ne_eqb c.args.call 13 (omega arith), ne_eqb c.args.call 14 (omega arith), ne_eqb c.args.call 15 (omega arith), ne_eqb c.args.call 16 (omega arith), ne_eqb c.args.call 17 (omega arith), ne_eqb c.args.call 18 (omega arith), ne_eqb c.args.call 19 (omega arith), ne_eqb c.args.call 20 (omega arith)) (cc)
