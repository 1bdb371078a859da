-- `abs` meets its contract: each return is a law of what its tests leave.
use mathlib.Core.Path.{sym, subst}
use lib.Dec.{T}
use Rattle.standins.proofs.Size.{size-negative, size-zero, size-positive}
use Rattle.standins.proofs.cut.abs.Goals as goal

pub returns-then-x : goal.returns-then-x
returns-then-x c = size-negative c.args.x c.if-x.true

pub returns-then-x-2 : goal.returns-then-x-2
returns-then-x-2 c = size-zero c.args.x (subst T (sym c.well_formed.0.1) tt) c.if-x-2.true

pub returns : goal.returns
returns c = size-positive c.args.x c.if-x.false c.if-x-2.false
