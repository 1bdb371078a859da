use mathlib.Core.Path.{◌≡◌, ap, ◌∙◌}
use Prim.Native.Nat.{◌-◌}
use native.Mathlib.Omega.{arith}
use Rattle.geometry.specs.Matrix.{largest_of, pivot_row_of}
use Rattle.geometry.proofs.Steps.{largest-none, largest-more, larger-below}
use Rattle.geometry.proofs.matrix.pivot_row.Goals as goal

pub loop-i-init : goal.loop-i-init
loop-i-init c = (c.requires, largest-none c.args.m.now c.args.k)

pub loop-i-preserved : goal.loop-i-preserved
loop-i-preserved c =
    let a = c.args in
    let b = larger-below a.m.now a.k c.loop-i.p c.loop-i.i (omega arith) (omega arith) in
    (omega (arith, b, c.larger-p.ensures), largest-more a.m.now a.k c.loop-i.p c.loop-i.i c.larger-p.result (omega arith) c.loop-i.invariant.1 c.larger-p.ensures)

pub returns : goal.returns
unfolding pivot_row_of
returns c =
    let a = c.args in
    let n : c.loop-i.i - a.k - 1 ≡ 5 - a.k = omega arith in
    (c.loop-i.invariant.0, c.loop-i.invariant.1 ∙ ap (largest_of a.m.now a.k) n)
