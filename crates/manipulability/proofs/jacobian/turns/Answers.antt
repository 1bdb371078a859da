-- `turns` meets its contract: each kind by its arm.
use Rattle.manipulability.specs.Jacobian.{turns_at}
use Rattle.manipulability.proofs.jacobian.turns.Goals as goal

pub returns-in-Turning : goal.returns-in-Turning
unfolding turns_at
returns-in-Turning c = rw (← c.kind_at-kind.ensures, c.in-Turning.is)

pub returns-in-Sliding : goal.returns-in-Sliding
unfolding turns_at
returns-in-Sliding c = rw (← c.kind_at-kind.ensures, c.in-Sliding.is)

pub returns-in-Telescoping : goal.returns-in-Telescoping
unfolding turns_at
returns-in-Telescoping c = rw (← c.kind_at-kind.ensures, c.in-Telescoping.is)

pub returns-in-Fixed : goal.returns-in-Fixed
unfolding turns_at
returns-in-Fixed c = rw (← c.kind_at-kind.ensures, c.in-Fixed.is)

pub returns-in-Unlisted : goal.returns-in-Unlisted
unfolding turns_at
returns-in-Unlisted c = rw (← c.kind_at-kind.ensures, c.in-Unlisted.is)
