-- `quaternion_log` meets its contract: each return follows the tests of w and of the sine.
use Rattle.geometry.specs.Quaternion.{axis_of}
use Rattle.utils_rust.specs.Transformations.{quaternion_log}
use Rattle.utils_rust.proofs.transformations.quaternion_log.Goals as goal

pub returns-then-abs-2 : goal.returns-then-abs-2
unfolding quaternion_log axis_of
returns-then-abs-2 c = rw (← c.abs.ensures, c.if-abs.true, ← c.acos-a.ensures, ← c.sin-sina.ensures, ← c.abs-then-abs.ensures, c.if-abs-2.true) c.scale.ensures

pub returns-else-abs-2 : goal.returns-else-abs-2
unfolding quaternion_log axis_of
returns-else-abs-2 c = rw (← c.abs.ensures, c.if-abs.true, ← c.acos-a.ensures, ← c.sin-sina.ensures, ← c.abs-then-abs.ensures, c.if-abs-2.false)

pub returns-else-abs : goal.returns-else-abs
unfolding quaternion_log axis_of
returns-else-abs c = rw (← c.abs.ensures, c.if-abs.false)
