-- `walk` meets its contract: turn after turn one entry more.
use mathlib.Core.Path.{◌≡◌}
use Prim.Native.Nat.{◌+◌, ◌-◌, ◌*◌}
use Rattle.lists.specs.Splice.{splice}
use Rattle.lists.specs.Runs.{runs}
use Rattle.spacetime.specs.Walk.{poses}
use Rattle.one_block.specs.Record.{joint_entry, link_entry, place_after_all, Meets}
use Rattle.one_block.proofs.walk.walk.Given as goal

abbrev pub invariant-loop-link : goal.invariant-loop-link
invariant-loop-link l =
    (l.p.at ≡ l.initial.p.at + (l.link - l.from)) × Meets l.counts l.codes l.floats l.block l.link l.p
    × (l.joints ≡ splice l.initial.joints l.initial.p.at (runs (joint_entry l.raised) l.from (l.link - l.from)))
    × (l.links ≡ splice l.initial.links l.initial.p.at (runs (link_entry l.raised) l.from (l.link - l.from)))
    × (l.frames ≡ splice l.initial.frames (7 * l.initial.p.at) (runs (poses l.counts l.codes l.floats l.block) l.from (l.link - l.from)))
    × (l.p ≡ place_after_all l.counts l.codes l.floats l.block l.from (l.link - l.from) l.initial.p)
