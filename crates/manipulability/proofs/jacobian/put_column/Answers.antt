-- `put_column` meets its contract: two runs that touch are one.
use mathlib.Core.Path.{ap, ◌∙◌}
use mathlib.Core.List.{List, ◌++◌}
use Prim.Native.Nat.{◌+◌}
use native.Mathlib.Omega.{arith}
use lib.Ieee.{Float}
use Rattle.geometry.specs.declared.vector.Vec3.{Vec3}
use Rattle.geometry.specs.Vector.{cross_of}
use Rattle.lists.specs.Splice.{splice, splice-splice}
use Rattle.spacetime.specs.Floats.{flat_vec, vec-length}
use Rattle.manipulability.specs.Jacobian.{column_of}
use Rattle.manipulability.proofs.jacobian.put_column.Goals as goal

pub returns : goal.returns
unfolding column_of
returns c =
    let a = c.args in
    let l = c.cross-linear.result in
    c.put_vec-2.ensures ∙ ap (λ (m : List Float). splice m (a.at + 3) (flat_vec a.v)) c.put_vec.ensures
    ∙ splice-splice a.j.now a.at (a.at + 3) (flat_vec l) (flat_vec a.v) (omega (arith, vec-length l)) (omega (arith, c.requires, vec-length l))
    ∙ ap (λ (w : Vec3). splice a.j.now a.at (flat_vec w ++ flat_vec a.v)) (c.cross-linear.ensures ∙ ap (cross_of a.v) c.sub.ensures)
