-- `quat` meets its contract: by the call's number, and by what the calls of its arm ensure.
use native.Mathlib.Omega.{arith}
use borrow.Author.Tests.{ne_eqb}
use Rattle.replay.specs.Leaves.{quat_of}
use Rattle.replay.proofs.leaves.quat.Goals as goal

pub returns-in-32 : goal.returns-in-32
unfolding quat_of
returns-in-32 c = rw c.in-32.is (cc)

pub returns-in-33 : goal.returns-in-33
unfolding quat_of
returns-in-33 c = rw c.in-33.is (cc)

pub returns-in-34 : goal.returns-in-34
unfolding quat_of
returns-in-34 c = rw c.in-34.is (cc)

pub returns-in-35 : goal.returns-in-35
unfolding quat_of
returns-in-35 c = rw c.in-35.is (cc)

pub returns-in_default : goal.returns-in_default
unfolding quat_of
returns-in_default c =
    rw (ne_eqb c.args.call 32 (omega arith), ne_eqb c.args.call 33 (omega arith), ne_eqb c.args.call 34 (omega arith), ne_eqb c.args.call 35 (omega arith)) (cc)
