-- `exchange`: rows that are one need no swap; else `swap_rows` swaps them.
use mathlib.Core.Path.{sym}
use native.Mathlib.Omega.{arith}
use borrow.Author.Tests.{eq-eqb, ne_eqb}
use Rattle.geometry.specs.Matrix.{swap_count}
use Rattle.geometry.proofs.Steps.{swap-none}
use Rattle.geometry.proofs.matrix.exchange.Goals as goal

pub returns-then-k-p : goal.returns-then-k-p
unfolding swap_count
returns-then-k-p c =
    let a = c.args in
    (sym (rw (eq-eqb a.k a.p c.if-k-p.true)), swap-none a.m.now a.k a.p (omega arith) c.if-k-p.true)

pub returns : goal.returns
unfolding swap_count
returns c =
    let a = c.args in
    (sym (rw (ne_eqb a.k a.p c.if-k-p.false)), c.swap_rows.ensures)
