use Prim.Native.Nat.{◌<◌}
use native.Mathlib.Omega.{arith}
use Rattle.geometry.specs.Matrix.{added_of}
use Rattle.geometry.proofs.Tables.{rewritten-all, row-turn}
use Rattle.geometry.proofs.matrix.add_row.Goals as goal

pub loop-s-preserved : goal.loop-s-preserved
unfolding added_of
loop-s-preserved c =
    let a = c.args in
    let h : c.loop-s.s < 6 = omega arith in
    let w = c.loop-s.invariant in
    rw (c.put_entry.ensures, c.entry-in-loop-s.ensures, c.entry.ensures, c.entry-x.ensures)
    (row-turn _ _ _ w _ (omega arith) h (rw (w.ahead a.r c.loop-s.s (omega arith) h (omega arith))))

pub returns : goal.returns
returns c = rewritten-all c.loop-s.invariant (λ i j hi hj. omega arith)
