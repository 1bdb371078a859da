-- `b30` meets its contract: two comparisons of numerals.
use mathlib.Core.Path.{◌≡◌, refl}
use Prim.Native.Nat.{◌*◌, ◌^◌}
use lib.Dec.{T, lit<}
use lib.Ieee.{binary64, of_bits}
use lib.Ieee.Bits.{of_bits-fits}
use lib.Ieee.Positive.{positive}
use Rattle.root.specs.Root.{steps}
use Rattle.standins.proofs.Pth.{nearest-pth}
use Rattle.standins.proofs.power.b30.Goals as goal

is_positive : T (positive (of_bits binary64 4606858950050823419))
unfolding of_bits
is_positive = tt

in-units : steps (of_bits binary64 4606858950050823419) ≡ 8683730505547003 * 2 ^ 1021
unfolding of_bits
in-units = refl

pub returns : goal.returns
returns c =
    record {
      same = refl;
      nearest = nearest-pth 30 1000000000000000 2995732273553991 8683730505547003 1021 (of_bits binary64 4606858950050823419) (lit< tt) (of_bits-fits binary64 4606858950050823419) is_positive in-units (lit< tt) (lit< tt);
    }
