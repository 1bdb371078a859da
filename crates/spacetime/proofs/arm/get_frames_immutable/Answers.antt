-- `get_frames_immutable` meets its contract: the rotations that the walk reads are those made of the turns that were put.
use native.Mathlib.Omega.{arith}
use Rattle.spacetime.specs.Turns.{turns-turned, turned-rotated}
use Rattle.spacetime.proofs.arm.get_frames_immutable.Goals as goal

pub walk-requires : goal.walk-requires
walk-requires c =
    let turned = turns-turned _ _ _ _ (omega (arith, c.requires)) c.put_turns.auto.turns c.put_turns.ensures in record {
      sheet = c.requires.sheet;
      rotated = turned-rotated _ _ _ _ _ turned _ c.walk_rotations.auto.turns c.walk_rotations.ensures;
      codes_in_bounds = c.requires.codes_in_bounds;
    }
