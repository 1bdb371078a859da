-- `b20` meets its contract: two comparisons of numerals.
use mathlib.Core.Path.{◌≡◌, refl}
use Prim.Native.Nat.{◌*◌, ◌^◌}
use lib.Dec.{T, lit<}
use lib.Ieee.{binary64, of_bits}
use lib.Ieee.Bits.{of_bits-fits}
use lib.Ieee.Positive.{positive}
use Rattle.root.specs.Root.{steps}
use Rattle.standins.proofs.Pth.{nearest-pth}
use Rattle.standins.proofs.power.b20.Goals as goal

is_positive : T (positive (of_bits binary64 4606701598290588863))
unfolding of_bits
is_positive = tt

in-units : steps (of_bits binary64 4606701598290588863) ≡ 8526378745312447 * 2 ^ 1021
unfolding of_bits
in-units = refl

pub returns : goal.returns
returns c =
    record {
      same = refl;
      nearest = nearest-pth 20 1000000000000000 2995732273553991 8526378745312447 1021 (of_bits binary64 4606701598290588863) (lit< tt) (of_bits-fits binary64 4606701598290588863) is_positive in-units (lit< tt) (lit< tt);
    }
