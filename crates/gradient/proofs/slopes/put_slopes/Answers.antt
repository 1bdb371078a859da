use native.Mathlib.Omega.{arith}
use Rattle.lists.specs.Listed.{listed-none, listed-turn}
use Rattle.gradient.specs.Slopes.{slope_between, loss-left, slope-made}
use Rattle.gradient.proofs.slopes.put_slopes.Goals as goal

pub loop-i-init : goal.loop-i-init
loop-i-init c = listed-none (slope_between _ _) _

pub loop-i-preserved : goal.loop-i-preserved
loop-i-preserved c =
    let l = c.loop-i in
    let fs = c.args.f_0s.now in
    let hs = c.args.f_hs.now in
    listed-turn (slope_between fs hs) hs l.f_hs l.i _ (omega (arith, c.requires)) l.auto.f_hs l.invariant
    (slope-made fs hs l.f_hs l.i (loss-left (slope_between fs hs) hs l.f_hs l.i (omega (arith, c.requires)) l.invariant))
