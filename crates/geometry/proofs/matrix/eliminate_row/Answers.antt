use Prim.Native.Nat.{◌<◌}
use native.Mathlib.Omega.{arith}
use Rattle.geometry.specs.Matrix.{eliminated_of}
use Rattle.geometry.proofs.Tables.{rewritten-all, row-turn}
use Rattle.geometry.proofs.matrix.eliminate_row.Goals as goal

pub loop-c-preserved : goal.loop-c-preserved
unfolding eliminated_of
loop-c-preserved c =
    let a = c.args in
    let h : c.loop-c.c < 6 = omega arith in
    let w = c.loop-c.invariant in
    rw (c.put_entry.ensures, c.entry-in-loop-c-2.ensures, c.entry-in-loop-c.ensures, c.entry-2.ensures, c.entry.ensures)
    (row-turn _ _ _ w _ (omega arith) h
    (rw (w.ahead a.i c.loop-c.c (omega arith) h (omega arith), w.ahead a.k c.loop-c.c (omega arith) h (omega arith))))

pub returns : goal.returns
returns c = rewritten-all c.loop-c.invariant (λ i j hi hj. omega arith)
