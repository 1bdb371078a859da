use native.Mathlib.Omega.{arith}
use Rattle.geometry.specs.Matrix.{add_column_of}
use Rattle.geometry.proofs.Tables.{rewritten-all}
use Rattle.geometry.proofs.Sums.{gain-row}
use Rattle.geometry.proofs.matrix.add_column.Goals as goal

pub loop-r-preserved : goal.loop-r-preserved
loop-r-preserved c =
    let a = c.args in
    rw c.add_row.ensures (gain-row a.j.now a.c (omega arith) c.loop-r.invariant)

pub returns : goal.returns
unfolding add_column_of
returns c = rewritten-all c.loop-r.invariant (λ i j hi hj. omega arith)
