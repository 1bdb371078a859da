-- `measure` meets its contract: by the call's number, and by what the calls of its arm ensure.
use native.Mathlib.Omega.{arith}
use borrow.Author.Tests.{ne_eqb}
use Rattle.replay.specs.Leaves.{measure_of}
use Rattle.replay.proofs.leaves.measure.Goals as goal

pub returns-in-29 : goal.returns-in-29
unfolding measure_of
returns-in-29 c = rw c.in-29.is (cc)

pub returns-in-30 : goal.returns-in-30
unfolding measure_of
returns-in-30 c = rw c.in-30.is (cc)

pub returns-in_default : goal.returns-in_default
unfolding measure_of
returns-in_default c =
    rw (ne_eqb c.args.call 29 (omega arith), ne_eqb c.args.call 30 (omega arith)) (cc)
