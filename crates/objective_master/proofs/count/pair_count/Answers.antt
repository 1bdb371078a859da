use mathlib.Core.Path.{◌≡◌, ap, ◌∙◌}
use Prim.Native.Nat.{suc, ◌+◌, ◌-◌}
use native.Mathlib.Omega.{arith}
use Rattle.self_collision.specs.Pairs.{triangle}
use Rattle.objective_master.proofs.count.pair_count.Goals as goal

pub loop-k-init : goal.loop-k-init
unfolding triangle
loop-k-init c = (omega arith, omega arith, omega arith, omega arith)

pub loop-k-preserved : goal.loop-k-preserved
unfolding triangle
loop-k-preserved c =
    let more : c.loop-k.k + 1 - 2 ≡ suc (c.loop-k.k - 2) = omega arith in
    rw more (omega arith, omega arith, omega arith, omega arith)

pub returns : goal.returns
unfolding triangle
returns c =
    let e : c.loop-k.k - 2 ≡ c.args.n - 2 = omega arith in
    (c.loop-k.invariant.2 ∙ ap triangle e, omega arith)
