-- `root::pattern` meets its contract: the parts and the digits, joined.
use mathlib.Core.Path.{refl}
use Rattle.root.proofs.Fields.{joined}
use Rattle.root.proofs.pattern.Goals as goal

pub returns : goal.returns
returns c = (_, _, _, joined _ _ _ _ _ c.parts-p.ensures c.digits-q.ensures refl)
