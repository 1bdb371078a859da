-- `walk_rotations` meets its contract: turn after turn one rotation more, and the turns ahead as they came.
use mathlib.Core.Path.{◌≡◌}
use Rattle.lists.specs.Splice.{splice}
use Rattle.spacetime.specs.Turns.{quats_of, start_turn, met_by, rotation_by}
use Rattle.spacetime.proofs.arm.walk_rotations.Given as goal

abbrev pub invariant-loop-at : goal.invariant-loop-at
invariant-loop-at l =
    (start_turn l.counts l.at l.q ≡ met_by l.counts l.codes l.floats l.initial.turns l.at)
    × (l.turns ≡ splice l.initial.turns 0 (quats_of (rotation_by l.counts l.codes l.floats l.initial.turns) l.at))
