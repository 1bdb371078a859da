-- `small_angle` meets its contract: by what its three calls ensure.
use mathlib.Core.Path.{◌≡◌, refl}
use lib.Ieee.{binary64, of_int, of_bits}
use Rattle.standins.specs.Num.{whole}
use Rattle.standins.specs.Series.{small_angle_of}
use Rattle.standins.proofs.series.small_angle.Goals as goal

is-four : of_bits binary64 0x4010_0000_0000_0000 ≡ whole 4
unfolding of_bits of_int
is-four = refl

pub returns : goal.returns
unfolding small_angle_of
returns c = let e = is-four in cc
