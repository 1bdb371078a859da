use mathlib.Core.Path.{◌≡◌, refl}
use native.Mathlib.Numerals.{add-one}
use native.Mathlib.Omega.{arith}
use lib.ListN.{length}
use Rattle.groove.specs.Loss.{velocity_at, acceleration_at, jerk_at, squares_to, velocity_of, acceleration_of, jerk_of}
use Rattle.groove.proofs.objective.joint_changes.Goals as goal

pub loop-i-init : goal.loop-i-init
unfolding squares_to
loop-i-init c = (refl, refl, refl)

pub loop-i-preserved : goal.loop-i-preserved
unfolding squares_to velocity_at acceleration_at jerk_at
loop-i-preserved c =
    let i = c.loop-i.invariant in
    (rw (add-one, i.0), rw (add-one, i.1), rw (add-one, i.2))

pub returns : goal.returns
unfolding velocity_of acceleration_of jerk_of
returns c =
    let n : c.loop-i.i ≡ length c.args.x.now = omega arith in
    let i = c.loop-i.invariant in
    rw (c.roots.ensures, i.0, i.1, i.2, n)
