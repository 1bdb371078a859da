-- `whole` meets its contract: each return follows the test.
use mathlib.Core.Path.{◌≡◌}
use Prim.Native.Nat.{◌%◌}
use native.Mathlib.Omega.{arith}
use borrow.Author.Tests.{eq-eqb, ne_eqb}
use Rattle.lent_bytes.specs.Lent.{whole_in}
use Rattle.lent_bytes.proofs.lent.whole.Goals as goal

pub returns-then-size-width-ne0 : goal.returns-then-size-width-ne0
unfolding whole_in
returns-then-size-width-ne0 c =
    let ragged : c.args.size % c.args.width ≡ 0 → ⊥ = λ z. omega (arith, c.if-size-width-ne0.true, z) in
    rw (ne_eqb _ 0 ragged)

pub returns : goal.returns
unfolding whole_in
returns c =
    let exact : c.args.size % c.args.width ≡ 0 = omega (arith, c.if-size-width-ne0.false) in
    rw (eq-eqb _ 0 exact)
