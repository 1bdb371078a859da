-- `answered` meets its contract: the number, then the value.
use mathlib.Core.Path.{◌≡◌, ap}
use mathlib.Core.List.{[], ◌∷◌}
use Prim.Native.Nat.{◌+◌}
use native.Mathlib.Omega.{arith}
use lib.Ieee.{Float}
use Rattle.lent_bytes.specs.Lent.{bytes_of}
use Rattle.stored_answers.specs.Agree.{agrees-begin, agrees_on}
use Rattle.sequences.proofs.agree.answered.Goals as goal

pub returns : goal.returns
returns c =
    let k = c.args.k in
    let z : k + 0 ≡ k = omega arith in
    agrees_on _ _ _ k [] (agrees-begin _ _ k c.number-a.ensures c.number_of.ensures) (ap (λ (v : Float). bytes_of (v ∷ [])) c.value.ensures) (rw z c.elements.ensures)
