use mathlib.Core.Path.{refl}
use Rattle.root.proofs.Turn.{taken, left}
use Rattle.root.proofs.by_digits.Goals as goal

pub loop-k-preserved-then-t-y : goal.loop-k-preserved-then-t-y
loop-k-preserved-then-t-y c = taken _ _ _ _ c.loop-k.invariant c.loop-k-test.true _ refl c.if-t-y.true

pub loop-k-preserved : goal.loop-k-preserved
loop-k-preserved c = left _ _ _ _ c.loop-k.invariant c.loop-k-test.true c.if-t-y.false
