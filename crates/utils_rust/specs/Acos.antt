-- The inverse cosine of document 02's change 4, made for a size under 1.
use Rattle.std.specs.Prelude.{cond, Float}
use Rattle.std.specs.Float.{binary64}
use Rattle.std.specs.Float.Ieee.{of_bits, lt, eq}
use Rattle.root.specs.Root.{root_of}
use Rattle.standins.specs.Num.{◌⊖◌, ◌⊗◌, nought, one, abs_of}
use Rattle.standins.specs.Series.{atan2_of}

-- 3.141592653589793
abbrev pub half_turn : Float
half_turn = of_bits binary64 0x4009_21fb_5444_2d18

-- sqrt(1 - w·w), the side opposite the angle whose cosine is w
unfoldable pub opposite_of : Float → Float
opposite_of w = root_of (one ⊖ w ⊗ w)

-- atan2 of that root and |w|; a root of 0 gives 0
unfoldable pub acute_of : Float → Float
acute_of w = cond (eq (opposite_of w) nought) nought (atan2_of (opposite_of w) (abs_of w))

-- for negative w half a turn minus that
unfoldable pub acos_of : Float → Float
acos_of w = cond (lt w nought) (half_turn ⊖ acute_of w) (acute_of w)
