-- `relaxed_ik_gram` meets its contract: by the tests, and by what its calls ensure.
use mathlib.Core.Path.{◌≡◌, sym, ap, ◌∙◌}
use mathlib.Core.List.{List}
use Prim.Native.Nat.{◌+◌, ◌*◌, ◌/◌}
use native.Mathlib.Omega.{arith}
use borrow.Author.Tests.{eq-eqb, ne_eqb, lt-ltb, le-ltb}
use lib.ListN.{length, get_or, take}
use lib.Seq.{length-take-le}
use lib.Ieee.{Float, nan}
use Rattle.lists.specs.Listed.{length-listed}
use Rattle.standins.specs.Num.{nought-over-nought}
use Rattle.geometry.specs.Matrix.{gram_of}
use Rattle.lent_bytes.specs.Bytes.{float_at}
use Rattle.exports.specs.Matrices.{columns_in, gram_entry}
use Rattle.exports.proofs.matrices.relaxed_ik_gram.Goals as goal

pub returns-then-size-ne0 : goal.returns-then-size-ne0
unfolding gram_entry
returns-then-size-ne0 c = rw (ne_eqb _ 0 c.if-size-ne0.true) nought-over-nought

pub returns-then-size-gt768 : goal.returns-then-size-gt768
unfolding gram_entry
returns-then-size-gt768 c = rw (eq-eqb _ 0 c.if-size-ne0.false, lt-ltb 768 _ c.if-size-gt768.true) nought-over-nought

pub returns-then-row-gt5 : goal.returns-then-row-gt5
unfolding gram_entry
returns-then-row-gt5 c = rw (eq-eqb _ 0 c.if-size-ne0.false, le-ltb 768 _ c.if-size-gt768.false, lt-ltb 5 _ c.if-row-gt5.true) nought-over-nought

pub returns-then-column-gt5 : goal.returns-then-column-gt5
unfolding gram_entry
returns-then-column-gt5 c = rw (eq-eqb _ 0 c.if-size-ne0.false, le-ltb 768 _ c.if-size-gt768.false, le-ltb 5 _ c.if-row-gt5.false, lt-ltb 5 _ c.if-column-gt5.true) nought-over-nought

pub slice_bounds-gram-end : goal.slice_bounds-gram-end
slice_bounds-gram-end c =
    let n : length c.floats.new.out ≡ 96 = ap length c.floats.ensures ∙ length-listed (float_at _) 96 in
    sym (length-take-le (length c.args.columns.now / 8) c.floats.new.out (omega (arith, c.if-size-gt768.false)))

pub returns : goal.returns
unfolding gram_entry columns_in
returns c =
    let a = c.args in
    let l : take (length a.columns.now / 8) c.floats.new.out ≡ columns_in a.columns.now = ap (take (length a.columns.now / 8)) c.floats.ensures in
    rw (eq-eqb _ 0 c.if-size-ne0.false, le-ltb 768 _ c.if-size-gt768.false, le-ltb 5 _ c.if-row-gt5.false, le-ltb 5 _ c.if-column-gt5.false)
    (ap (λ (m : List Float). get_or m (6 * a.row + a.column) nan) (c.gram-product.ensures ∙ ap gram_of l))
