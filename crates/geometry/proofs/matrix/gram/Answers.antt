use mathlib.Core.Path.{◌≡◌, refl, ap, ◌∙◌}
use mathlib.Core.List.{List}
use Prim.Native.Nat.{ℕ, ◌/◌}
use native.Mathlib.Omega.{arith}
use lib.Ieee.{Float}
use lib.ListN.{length}
use Rattle.geometry.specs.Matrix.{table, matrix_of, sum_to, sum_of, add_column_of, gram_of}
use Rattle.geometry.proofs.Sums.{sums, sums-turn}
use Rattle.geometry.proofs.matrix.gram.Goals as goal

pub loop-c-init : goal.loop-c-init
unfolding matrix_of table sum_to
loop-c-init c = refl

pub loop-c-preserved : goal.loop-c-preserved
loop-c-preserved c =
    let a = c.args in
    c.add_column.ensures ∙ ap (λ (z : List Float). add_column_of z a.j.now c.loop-c.c) c.loop-c.invariant ∙ sums-turn a.j.now c.loop-c.c

pub returns : goal.returns
unfolding gram_of sum_of
returns c =
    let a = c.args in
    let n : c.loop-c.c ≡ length a.j.now / 6 = omega arith in
    c.loop-c.invariant ∙ ap (λ (z : ℕ). matrix_of (sums a.j.now z)) n
