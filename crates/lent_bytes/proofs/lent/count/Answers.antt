-- `count` meets its contract: the whole ones, where there is room for them.
use native.Mathlib.Omega.{arith}
use borrow.Author.Tests.{lt-ltb, le-ltb}
use Rattle.lent_bytes.specs.Lent.{count-whole, whole-under}
use Rattle.lent_bytes.proofs.lent.count.Goals as goal

pub returns-then-most-n-clause-count : goal.returns-then-most-n-clause-count
returns-then-most-n-clause-count c =
    let a = c.args in
    rw (← count-whole a.width a.most a.size, ← c.whole-n.ensures, lt-ltb _ _ c.if-most-n.true)

pub returns-else-most-n-clause-count : goal.returns-else-most-n-clause-count
returns-else-most-n-clause-count c =
    let a = c.args in
    rw (← count-whole a.width a.most a.size, ← c.whole-n.ensures, le-ltb _ _ c.if-most-n.false)

pub returns-else-most-n-clause-fits : goal.returns-else-most-n-clause-fits
returns-else-most-n-clause-fits c = (c.if-most-n.false, omega (arith, c.whole-n.ensures, whole-under c.args.width c.args.size))
