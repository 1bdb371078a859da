use native.Mathlib.Omega.{arith}
use Rattle.sheet.specs.Chain.{total-next, total-none}
use Rattle.sheet.proofs.chain.total_links.Goals as goal

pub loop-n-preserved : goal.loop-n-preserved
loop-n-preserved c = (
  omega (arith, c.type_inv.counts c.loop-n.n-index),
  omega (arith, total-next c.args.counts.now c.loop-n.n-index c.loop-n-test.true),
)

pub returns : goal.returns
returns c = omega (arith, total-none c.args.counts.now c.loop-n.n-index c.loop-n-test.false)
