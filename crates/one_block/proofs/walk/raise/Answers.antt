-- `raise` meets its contract.
use mathlib.Core.Path.{refl}
use Rattle.gradient.specs.Gradient.{raised_by}
use Rattle.one_block.proofs.walk.raise.Goals as goal

pub returns : goal.returns
unfolding raised_by
returns c =
    record {
      value = refl;
      block_after = refl;
    }
