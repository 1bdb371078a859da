-- What the theorems on where the two kinds of sliding joint agree (proofs/SamePoint.antt) ask of displacements and positions.
use Rattle.std.specs.Prelude.{T}
use Rattle.std.specs.Float.{binary64}
use Rattle.std.specs.Float.Ieee.{fits}
use Rattle.geometry.specs.declared.vector.Vec3.{Vec3}

-- the three coordinates are f64s
abbrev pub VecFits : Vec3 → Type 0
VecFits v = T (fits binary64 v.x) × T (fits binary64 v.y) × T (fits binary64 v.z)
