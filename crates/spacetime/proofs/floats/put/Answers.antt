-- `put` meets its contract: two runs that touch are one.
use mathlib.Core.Path.{ap, ◌∙◌}
use mathlib.Core.List.{List}
use Prim.Native.Nat.{◌+◌}
use native.Mathlib.Omega.{arith}
use lib.Ieee.{Float}
use Rattle.lists.specs.Splice.{splice, splice-splice}
use Rattle.spacetime.specs.Floats.{flat, flat_vec, flat_quat, vec-length}
use Rattle.spacetime.proofs.floats.put.Goals as goal

pub returns : goal.returns
unfolding flat
returns c =
    let p = c.args.p in
    let n = vec-length p.position in
    c.put_quat.ensures ∙ ap (λ (l : List Float). splice l (c.args.at + 3) (flat_quat p.rotation)) c.put_vec.ensures
    ∙ splice-splice c.args.l.now c.args.at (c.args.at + 3) (flat_vec p.position) (flat_quat p.rotation) (omega arith) (omega (arith, c.requires))
