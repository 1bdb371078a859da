-- Vectors of three floats: sums, products and the norm.
use Rattle.std.specs.Prelude.{Float}
use Rattle.std.specs.Float.Ieee.{neg}
use Rattle.root.specs.Root.{root_of}
use Rattle.standins.specs.Num.{◌⊕◌, ◌⊖◌, ◌⊗◌, ◌⊘◌, nought}
use Rattle.geometry.specs.declared.vector.Vec3.{Vec3}

abbrev pub vec : Float → Float → Float → Vec3
vec x y z = record { x = x; y = y; z = z }

-- +0 three times
unfoldable pub zero_of : Vec3
zero_of = record { x = nought; y = nought; z = nought }

-- a + b, component by component
unfoldable pub add_of : Vec3 → Vec3 → Vec3
add_of a b = record { x = a.x ⊕ b.x; y = a.y ⊕ b.y; z = a.z ⊕ b.z }

-- a - b
unfoldable pub sub_of : Vec3 → Vec3 → Vec3
sub_of a b = record { x = a.x ⊖ b.x; y = a.y ⊖ b.y; z = a.z ⊖ b.z }

-- -v
unfoldable pub negate_of : Vec3 → Vec3
negate_of v = record { x = neg v.x; y = neg v.y; z = neg v.z }

-- v·s
unfoldable pub scale_of : Vec3 → Float → Vec3
scale_of v s = record { x = v.x ⊗ s; y = v.y ⊗ s; z = v.z ⊗ s }

-- v/s
unfoldable pub over_of : Vec3 → Float → Vec3
over_of v s = record { x = v.x ⊘ s; y = v.y ⊘ s; z = v.z ⊘ s }

-- a·b, left to right
unfoldable pub dot_of : Vec3 → Vec3 → Float
dot_of a b = a.x ⊗ b.x ⊕ a.y ⊗ b.y ⊕ a.z ⊗ b.z

-- (y·z' - z·y', z·x' - x·z', x·y' - y·x')
unfoldable pub cross_of : Vec3 → Vec3 → Vec3
cross_of a b = record { x = a.y ⊗ b.z ⊖ a.z ⊗ b.y; y = a.z ⊗ b.x ⊖ a.x ⊗ b.z; z = a.x ⊗ b.y ⊖ a.y ⊗ b.x }

-- the root of the squares' sum
unfoldable pub norm_of : Vec3 → Float
norm_of v = root_of (v.x ⊗ v.x ⊕ v.y ⊗ v.y ⊕ v.z ⊗ v.z)
