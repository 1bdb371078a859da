-- `part` meets its contract: each return follows the test of the length.
use Prim.Native.Nat.{◌+◌, ◌-◌}
use mathlib.Core.Path.{◌≡◌}
use native.Mathlib.Omega.{arith}
use borrow.Author.Tests.{lt-ltb, le-ltb}
use lib.ListN.{drop, length-drop}
use lib.Seq.{length-take-le}
use Rattle.stored_answers.specs.Stored.{part_of}
use Rattle.stored_answers.proofs.stored.part.Goals as goal

pub returns-then-s-to : goal.returns-then-s-to
unfolding part_of
returns-then-s-to c = (rw (lt-ltb _ _ c.if-s-to.true), omega arith)

pub returns : goal.returns
unfolding part_of
returns c =
    let a = c.args in
    let e : a.from + a.n - a.from ≡ a.n = omega arith in
    (rw (le-ltb _ _ c.if-s-to.false, e), rw e (omega (arith, length-take-le a.n (drop a.from a.s.now) (omega (arith, length-drop a.from a.s.now)))))
