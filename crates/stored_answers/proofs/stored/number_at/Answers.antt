-- `number_at` meets its contract: each return follows the test of the length.
use native.Mathlib.Omega.{arith}
use borrow.Author.Tests.{lt-ltb, le-ltb}
use Rattle.stored_answers.specs.Stored.{number_at}
use Rattle.stored_answers.proofs.stored.number_at.Goals as goal

pub returns-then-s-at : goal.returns-then-s-at
unfolding number_at
returns-then-s-at c = (rw (lt-ltb _ _ c.if-s-at.true), omega arith)

pub returns : goal.returns
unfolding number_at
returns c = (rw (le-ltb _ _ c.if-s-at.false) c.pair_at.ensures.0, omega arith)
