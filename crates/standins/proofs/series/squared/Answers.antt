use mathlib.Core.Path.{◌≡◌}
use Prim.Native.Nat.{◌+◌, ◌-◌}
use native.Mathlib.Omega.{arith}
use Rattle.standins.specs.Series.{squarings, down_turn, down-done}
use Rattle.standins.proofs.series.squared.Goals as goal

pub loop-preserved : goal.loop-preserved
unfolding squarings
loop-preserved c =
    let n : c.args.times - (c.loop.counter + 1) ≡ c.args.times - c.loop.counter - 1 = omega arith in
    rw n (down_turn _ (c.args.times - c.loop.counter) c.loop.e _ (omega arith) c.loop.invariant)

pub returns : goal.returns
unfolding squarings
returns c = down-done _ (c.args.times - c.loop.counter) _ _ (omega arith) c.loop.invariant
