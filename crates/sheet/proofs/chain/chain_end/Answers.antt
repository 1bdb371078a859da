use native.Mathlib.Omega.{arith}
use Rattle.sheet.specs.Chain.{end-inner, end-next, end_none}
use Rattle.sheet.proofs.chain.chain_end.Goals as goal

pub returns-then-k-n : goal.returns-then-k-n
returns-then-k-n c = omega (arith, end-inner c.args.counts.now c.loop-n.n-index c.loop-n.k c.loop-n-test.true c.if-k-n.true)

pub loop-n-preserved : goal.loop-n-preserved
loop-n-preserved c = (
  omega (arith, c.type_inv.counts c.loop-n.n-index),
  omega (arith, end-next c.args.counts.now c.loop-n.n-index c.loop-n.k c.loop-n-test.true c.if-k-n.false),
)

pub returns : goal.returns
returns c = omega (arith, end_none c.args.counts.now c.loop-n.n-index c.loop-n-test.false c.loop-n.k)
