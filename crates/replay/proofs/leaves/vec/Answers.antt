-- `vec` meets its contract: by the call's number, and by what the calls of its arm ensure.
use native.Mathlib.Omega.{arith}
use borrow.Author.Tests.{ne_eqb}
use Rattle.replay.specs.Leaves.{vec_of}
use Rattle.replay.proofs.leaves.vec.Goals as goal

pub returns-in-37 : goal.returns-in-37
unfolding vec_of
returns-in-37 c = rw c.in-37.is (cc)

pub returns-in-38 : goal.returns-in-38
unfolding vec_of
returns-in-38 c = rw c.in-38.is (cc)

pub returns-in_default : goal.returns-in_default
unfolding vec_of
returns-in_default c =
    rw (ne_eqb c.args.call 37 (omega arith), ne_eqb c.args.call 38 (omega arith)) (cc)
