-- `first_walk` meets its contract: it is `walk` over all links, from the origin.
use mathlib.Core.Path.{◌≡◌, sym}
use Prim.Native.Nat.{◌-◌}
use native.Mathlib.Omega.{arith}
use lib.ListN.{length}
use Rattle.sheet.specs.Chain.{first-zero, joint-zero}
use Rattle.spacetime.specs.Walk.{frames_of, start-zero}
use Rattle.one_block.proofs.grad.first_walk.Goals as goal

pub walk-requires : goal.walk-requires
walk-requires c =
    let a = c.args in record {
      sheet = c.requires.sheet;
      from_le_to = omega arith;
      meets = record { number = sym (joint-zero a.codes.now); met = start-zero a.counts.now a.codes.now a.floats.now a.block.now _ (first-zero a.counts.now) };
      room = record { joints-room = omega (arith, c.requires.room); links-room = omega (arith, c.requires.room); frames-room = omega (arith, c.requires.room) };
    }

pub returns : goal.returns
unfolding frames_of
returns c =
    let w = c.walk in
    let n = length c.args.codes.now in
    let e : n - 0 ≡ n = omega arith in record {
      joints_after = rw e at w.ensures.joints_after;
      links_after = rw e at w.ensures.links_after;
      frames_after = rw e at w.ensures.frames_after;
    }
