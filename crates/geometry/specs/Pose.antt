-- A pose: a position and a rotation.
use Rattle.geometry.specs.declared.pose.Pose.{Pose}
use Rattle.geometry.specs.Vector.{zero_of}
use Rattle.geometry.specs.Quaternion.{identity_of}

-- at zero, not turned
unfoldable pub origin_of : Pose
origin_of = record { position = zero_of; rotation = identity_of }
