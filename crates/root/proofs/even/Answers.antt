-- `root::even` meets its contract: the two exponents, odd and even.
use Rattle.root.proofs.Fields.{even_odd, even-even}
use Rattle.root.proofs.even.Goals as goal

pub returns-then-k-eq1 : goal.returns-then-k-eq1
returns-then-k-eq1 c = even_odd _ _ c.requires.0 c.requires.1 c.requires.2 c.if-k-eq1.true

pub returns : goal.returns
returns c = even-even _ _ c.requires.0 c.requires.1 c.requires.2 c.if-k-eq1.false
