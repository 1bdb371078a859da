use mathlib.Core.Path.{◌≡◌, refl, ap, ◌∙◌}
use Prim.Native.Nat.{ℕ}
use native.Mathlib.Omega.{arith}
use lib.ListN.{length}
use Rattle.lists.specs.Splice.{splice}
use Rattle.lists.specs.Listed.{listed, listed-none, listed-turn, listed-whole}
use Rattle.manipulability.specs.Jacobian.{unit_of}
use Rattle.manipulability.proofs.jacobian.identity.Goals as goal

pub loop-i-init : goal.loop-i-init
loop-i-init c = listed-none unit_of _

pub loop-i-preserved : goal.loop-i-preserved
loop-i-preserved c = listed-turn unit_of c.args.j.now c.loop-i.j c.loop-i.i _ (omega arith) c.loop-i.auto.j c.loop-i.invariant c.unit.ensures

pub returns : goal.returns
returns c =
    let xs = c.args.j.now in
    let e : c.loop-i.i ≡ length xs = omega arith in
    c.loop-i.invariant ∙ ap (λ (i : ℕ). splice xs 0 (listed unit_of i)) e ∙ listed-whole unit_of xs (length xs) refl
