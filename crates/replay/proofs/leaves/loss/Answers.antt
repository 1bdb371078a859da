-- `loss` meets its contract: by the call's number, and by what the calls of its arm ensure.
use native.Mathlib.Omega.{arith}
use borrow.Author.Tests.{ne_eqb}
use Rattle.replay.specs.Leaves.{loss_of}
use Rattle.replay.proofs.leaves.loss.Goals as goal

pub returns-in-22 : goal.returns-in-22
unfolding loss_of
returns-in-22 c = rw c.in-22.is (cc)

pub returns-in-23 : goal.returns-in-23
unfolding loss_of
returns-in-23 c = rw c.in-23.is (cc)

pub returns-in-24 : goal.returns-in-24
unfolding loss_of
returns-in-24 c = rw c.in-24.is (cc)

pub returns-in-25 : goal.returns-in-25
unfolding loss_of
returns-in-25 c = rw c.in-25.is (cc)

pub returns-in-26 : goal.returns-in-26
unfolding loss_of
returns-in-26 c = rw c.in-26.is (cc)

pub returns-in-27 : goal.returns-in-27
unfolding loss_of
returns-in-27 c = rw c.in-27.is (cc)

pub returns-in_default : goal.returns-in_default
unfolding loss_of
returns-in_default c =
    rw (ne_eqb c.args.call 22 (omega arith), ne_eqb c.args.call 23 (omega arith), ne_eqb c.args.call 24 (omega arith), ne_eqb c.args.call 25 (omega arith), ne_eqb c.args.call 26 (omega arith), ne_eqb c.args.call 27 (omega arith)) (cc)
