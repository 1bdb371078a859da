use mathlib.Core.Path.{refl, sym, ap, ◌∙◌}
use Prim.Native.Nat.{◌%◌}
use native.Mathlib.Omega.{arith}
use lib.Ieee.{neg}
use borrow.Author.Tests.{eq-eqb, ne_eqb}
use Rattle.geometry.specs.Matrix.{determinant_of, signed_of}
use Rattle.geometry.proofs.Steps.{count_most, steps-zero, steps-turn, steps-done}
use Rattle.geometry.proofs.matrix.determinant.Goals as goal

pub loop-k-init : goal.loop-k-init
unfolding determinant_of
loop-k-init c = (omega arith, refl)

pub returns-then-entry : goal.returns-then-entry
returns-then-entry c = steps-zero c.loop-k.a c.loop-k.swaps c.loop-k.k c.pivot_row-p.result _ c.pivot_row-p.ensures.1 c.loop-k.invariant.1 c.loop-k-test.true (rw c.entry.ensures at c.if-entry.true)

pub overflow_add-swaps : goal.overflow_add-swaps
overflow_add-swaps c = omega (arith, c.exchange-swaps.ensures.0, count_most c.loop-k.k c.pivot_row-p.result)

pub loop-k-preserved : goal.loop-k-preserved
loop-k-preserved c =
    let h = c.loop-k-test.true in
    (omega (arith, c.exchange-swaps.ensures.0, count_most c.loop-k.k c.pivot_row-p.result), steps-turn c.loop-k.a c.loop-k.swaps c.loop-k.k c.pivot_row-p.result _ c.pivot_row-p.ensures.1 c.loop-k.invariant.1 c.exchange-swaps.result _ _ h (rw c.entry.ensures at c.if-entry.false) c.exchange-swaps.ensures.0 c.exchange-swaps.ensures.1 c.eliminate_below.ensures)

pub returns-then-swaps-eq1 : goal.returns-then-swaps-eq1
unfolding signed_of
returns-then-swaps-eq1 c =
    ap neg c.diagonal-d.ensures
    ∙ sym (rw (eq-eqb (c.loop-k.swaps % 2) 1 c.if-swaps-eq1.true))
    ∙ steps-done c.loop-k.a c.loop-k.swaps c.loop-k.k _ (omega arith) c.loop-k.invariant.1

pub returns : goal.returns
unfolding signed_of
returns c =
    c.diagonal-d.ensures
    ∙ sym (rw (ne_eqb (c.loop-k.swaps % 2) 1 c.if-swaps-eq1.false))
    ∙ steps-done c.loop-k.a c.loop-k.swaps c.loop-k.k _ (omega arith) c.loop-k.invariant.1
