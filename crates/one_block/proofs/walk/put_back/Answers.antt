-- `put_back` meets its contract: the old value gives back the block that was raised.
use mathlib.Core.Path.{refl, ap, ◌∙◌}
use mathlib.Core.List.{List}
use lib.Ieee.{Float}
use lib.ListN.{set}
use Rattle.gradient.specs.Gradient.{raised_by}
use Rattle.gradient.specs.Made.{put_back}
use Rattle.one_block.proofs.walk.put_back.Goals as goal

pub returns : goal.returns
returns c =
    let a = c.args in record {
      block_after = refl;
      block_after_2 = λ x h e f. ap (λ (b : List Float). set b a.joint a.old) e ∙ ap (set (raised_by h x a.joint) a.joint) f ∙ put_back h x a.joint;
    }
