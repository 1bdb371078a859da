use mathlib.Core.Path.{sym, ap, ◌∙◌}
use Rattle.sheet.specs.Chain.{first_in, first-zero, first_inner, first_next, first-none}
use Rattle.sheet.proofs.chain.is_first.Goals as goal

pub returns-then-k-eq0 : goal.returns-then-k-eq0
returns-then-k-eq0 c = sym (c.loop-n.invariant ∙ ap (first_in _) c.if-k-eq0.true ∙ first-zero _)

pub returns-then-k-n : goal.returns-then-k-n
returns-then-k-n c = sym (c.loop-n.invariant ∙ first_inner _ _ _ c.loop-n-test.true c.if-k-eq0.false c.if-k-n.true)

pub loop-n-preserved : goal.loop-n-preserved
loop-n-preserved c = c.loop-n.invariant ∙ first_next _ _ _ c.loop-n-test.true c.if-k-eq0.false c.if-k-n.false

pub returns : goal.returns
returns c = sym (c.loop-n.invariant ∙ first-none _ _ c.loop-n-test.false _)
