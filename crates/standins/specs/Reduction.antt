-- Document 02's change 7: the angle that the series of sine and cosine take. Each operation rounds once.
use Rattle.std.specs.Prelude.{◌≡◌, Bool, true, false, cond, Float}
use Rattle.std.proofs.Common.{ap}
use Rattle.std.specs.Float.{binary64}
use Rattle.std.specs.Float.Ieee.{of_bits, lt}
use Rattle.whole.specs.Whole.{whole_of}
use Rattle.standins.specs.Num.{◌⊖◌, ◌⊗◌, ◌⊘◌, abs_of}

-- 6.283185307179586
abbrev pub turn : Float
turn = of_bits binary64 0x4019_21fb_5444_2d18

-- 4.5
abbrev pub unreduced : Float
unreduced = of_bits binary64 0x4012_0000_0000_0000

-- a - k·6.283185307179586, where k is the whole number nearest a/6.283185307179586, ties to even
unfoldable pub turned_of : Float → Float
turned_of a = a ⊖ whole_of (a ⊘ turn) ⊗ turn

-- beyond 4.5 in size that; at or below it a itself. A NaN is not beyond it and stays; an infinity gives a NaN.
unfoldable pub reduced_of : Float → Float
reduced_of a = cond (lt unreduced (abs_of a)) (turned_of a) a

-- ---- laws
-- at or below 4.5 in size, and of a NaN, nothing moves
pub kept : (a : Float) → lt unreduced (abs_of a) ≡ false → reduced_of a ≡ a
unfolding reduced_of
kept a h = ap (λ (b : Bool). cond b (turned_of a) a) h

-- beyond it whole turns are taken off
pub turned-off : (a : Float) → lt unreduced (abs_of a) ≡ true → reduced_of a ≡ turned_of a
unfolding reduced_of
turned-off a h = ap (λ (b : Bool). cond b (turned_of a) a) h
