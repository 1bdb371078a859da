use native.Mathlib.Omega.{arith}
use Rattle.geometry.specs.Matrix.{eliminate_of}
use Rattle.geometry.proofs.Tables.{rewritten-all}
use Rattle.geometry.proofs.Steps.{lose-row}
use Rattle.geometry.proofs.matrix.eliminate_below.Goals as goal

pub loop-i-preserved : goal.loop-i-preserved
loop-i-preserved c =
    let a = c.args in
    rw c.eliminate_row.ensures (lose-row a.m.now a.k c.loop-i.i (omega arith) (omega arith) c.loop-i.invariant)

pub returns : goal.returns
unfolding eliminate_of
returns c = rewritten-all c.loop-i.invariant (λ i j hi hj. omega arith)
