-- `chain_positions` meets its contract: two runs that touch are one.
use mathlib.Core.Path.{ap, ◌∙◌}
use mathlib.Core.List.{List}
use Prim.Native.Nat.{◌+◌}
use native.Mathlib.Omega.{arith}
use lib.Ieee.{Float}
use Rattle.lists.specs.Splice.{splice, splice-splice}
use Rattle.lists.specs.Runs.{runs}
use Rattle.geometry.specs.declared.vector.Vec3.{Vec3}
use Rattle.geometry.specs.Vector.{zero_of}
use Rattle.geometry.specs.Pose.{origin_of}
use Rattle.spacetime.specs.Floats.{flat_vec, vec-length}
use Rattle.spacetime.specs.Walk.{list_pose}
use Rattle.spacetime.specs.Frames.{position_at, positions_from}
use Rattle.spacetime.proofs.frames.chain_positions.Goals as goal

pub returns : goal.returns
unfolding positions_from origin_of
returns c =
    let a = c.args in
    let rest : List Float = runs (position_at (list_pose a.poses.now)) a.from a.n in
    c.link_positions.ensures
    ∙ ap (λ (l : List Float). splice l (a.at + 3) rest) (c.put_vec.ensures ∙ ap (λ (v : Vec3). splice a.out.now a.at (flat_vec v)) c.zero.ensures)
    ∙ splice-splice a.out.now a.at (a.at + 3) (flat_vec zero_of) rest (omega (arith, vec-length zero_of)) (omega (arith, vec-length zero_of, c.requires))
