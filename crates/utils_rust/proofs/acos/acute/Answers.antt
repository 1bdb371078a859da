-- `acute` meets its contract: each return follows the test of the root.
use Rattle.utils_rust.specs.Acos.{opposite_of, acute_of}
use Rattle.utils_rust.proofs.acos.acute.Goals as goal

pub returns-then-root : goal.returns-then-root
unfolding acute_of opposite_of
returns-then-root c = rw (← c.sqrt-root.ensures.same, c.if-root.true)

pub returns : goal.returns
unfolding acute_of opposite_of
returns c = rw (← c.sqrt-root.ensures.same, c.if-root.false, ← c.abs.ensures) c.atan2.ensures
