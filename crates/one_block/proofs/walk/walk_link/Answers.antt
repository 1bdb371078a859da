-- `walk_link` meets its contract: one entry in each list, and the place after it.
use mathlib.Core.Path.{sym}
use native.Mathlib.Omega.{arith}
use Rattle.lists.specs.Splice.{splice-one}
use Rattle.one_block.specs.Record.{place_after}
use Rattle.one_block.specs.Laws.{joint-inside, joint-small}
use Rattle.one_block.proofs.walk.walk_link.Goals as goal

pub after_link-pose-requires : goal.after_link-pose-requires
after_link-pose-requires c =
    let a = c.args in
    let i = joint-inside a.counts.now a.codes.now a.floats.now a.block.now c.requires.sheet a.link c.requires.link_in_bounds.0 in record {
      at_in_bounds = omega (arith, c.requires);
      at_in_bounds_2 = omega (arith, i, c.requires.link_in_bounds.1);
    }

pub next_joint-requires : goal.next_joint-requires
next_joint-requires c =
    let a = c.args in
    let i = joint-small a.counts.now a.codes.now a.floats.now a.block.now c.requires.sheet a.link (omega (arith, c.requires.link_in_bounds)) in
    omega (arith, i, c.requires.link_in_bounds)

pub returns : goal.returns
unfolding place_after
returns c =
    record {
      value = cc;
      joints_after = sym (splice-one _ _ _ (omega (arith, c.requires.room)));
      links_after = sym (splice-one _ _ _ (omega (arith, c.requires.room)));
      frames_after = c.put.ensures;
    }
