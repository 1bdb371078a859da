-- `objective_count` meets its contract: turn after turn one chain's pairs more.
use mathlib.Core.Path.{◌≡◌}
use Prim.Native.Nat.{◌*◌, ◌≤◌}
use lib.ListN.{length}
use Rattle.lists.specs.Runs.{runs}
use Rattle.sheet.specs.Chain.{chain_start, joint_of}
use Rattle.self_collision.specs.Pairs.{chain_pairs, first_arm, chain_lengths}
use Rattle.objective_master.proofs.count.objective_count.Given as goal

abbrev pub invariant-loop-count : goal.invariant-loop-count
invariant-loop-count l =
    (l.l ≡ chain_start l.counts l.count-index) × (l.joint ≡ joint_of l.codes l.l) × (l.joint ≤ 16)
    × (l.s ≡ length (runs (chain_pairs first_arm (chain_lengths l.counts l.codes)) 0 l.count-index)) × (l.s ≤ 256 * l.count-index)
