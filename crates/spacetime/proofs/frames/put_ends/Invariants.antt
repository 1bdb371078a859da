-- `put_ends` meets its contract: turn after turn one chain more.
use mathlib.Core.Path.{◌≡◌}
use Rattle.lists.specs.Splice.{splice}
use Rattle.lists.specs.Runs.{runs}
use Rattle.sheet.specs.Chain.{chain_start}
use Rattle.spacetime.specs.Walk.{list_pose}
use Rattle.spacetime.specs.Frames.{chain_end}
use Rattle.spacetime.proofs.frames.put_ends.Given as goal

abbrev pub invariant-loop-c : goal.invariant-loop-c
invariant-loop-c l = (l.from ≡ chain_start l.counts l.c) × (l.out ≡ splice l.initial.out 0 (runs (chain_end l.counts l.tools (list_pose l.poses)) 0 l.c))
