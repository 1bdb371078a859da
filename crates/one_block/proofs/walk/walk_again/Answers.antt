-- `walk_again` meets its contract: it is `walk`, and the block comes back as it was lent.
use mathlib.Core.Path.{refl, ap, ◌∙◌}
use Prim.Native.Nat.{◌-◌}
use native.Mathlib.Omega.{arith}
use Rattle.one_block.specs.Laws.{joint-small, walked_at}
use Rattle.one_block.specs.declared.walk.Place.{Place}
use Rattle.one_block.proofs.walk.walk_again.Goals as goal

pub overflow_cast-raised : goal.overflow_cast-raised
overflow_cast-raised c =
    let a = c.args in
    let i = joint-small a.counts.now a.codes.now a.floats.now a.block.now c.requires.sheet a.link (omega (arith, c.requires.link_le_end)) in
    omega (arith, i, c.requires.meets.number)

pub returns : goal.returns
returns c =
    let w = c.walk-after in
    let a = c.args in record {
      value = ap (λ (p : Place). p.at) w.ensures.value ∙ walked_at a.counts.now a.codes.now a.floats.now a.block.now a.link a.here (a.end - a.link);
      block_after = refl;
      joints_after = w.ensures.joints_after;
      links_after = w.ensures.links_after;
      frames_after = w.ensures.frames_after;
    }
