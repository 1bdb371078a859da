use native.Mathlib.Omega.{arith}
use Rattle.geometry.specs.Matrix.{swap_of}
use Rattle.geometry.proofs.Tables.{rewritten-all}
use Rattle.geometry.proofs.Steps.{swap-turn}
use Rattle.geometry.proofs.matrix.swap_rows.Goals as goal

pub loop-c-preserved : goal.loop-c-preserved
loop-c-preserved c =
    let a = c.args in
    rw (c.put_entry-in-loop-c.ensures, c.put_entry.ensures, c.entry-y.ensures, c.entry-x.ensures)
    (swap-turn a.m.now a.k a.p (omega arith) (omega arith) (omega arith) c.loop-c.invariant)

pub returns : goal.returns
unfolding swap_of
returns c = rewritten-all c.loop-c.invariant (λ i j hi hj. omega arith)
