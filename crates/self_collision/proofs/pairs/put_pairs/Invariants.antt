-- `put_pairs` meets its contract: turn after turn one chain's pairs more.
use mathlib.Core.Path.{◌≡◌}
use mathlib.Core.Bool.{Bool}
use mathlib.Core.List.{List, map}
use Prim.Native.Nat.{ℕ, ◌+◌}
use lib.Ieee.{Float}
use lib.ListN.{length}
use Rattle.lists.specs.Splice.{splice}
use Rattle.lists.specs.Runs.{runs}
use Rattle.sheet.specs.Chain.{chain_start, joint_of}
use Rattle.geometry.specs.declared.pose.Pose.{Pose}
use Rattle.manipulability.specs.View.{seen_by}
use Rattle.self_collision.specs.Pairs.{chain_pairs, first_arm, chain_lengths, pair_loss}
use Rattle.self_collision.proofs.pairs.put_pairs.Given as goal

-- what the pairs of chain c cost, and their last links
abbrev losses : List ℕ → List ℕ → (ℕ → Pose) → Bool → ℕ → List Float
losses ns cs P b c = map (pair_loss ns P b) (chain_pairs first_arm (chain_lengths ns cs) c)

abbrev pub invariant-loop-count : goal.invariant-loop-count
invariant-loop-count l =
    let f = losses l.counts l.codes (seen_by l.poses) l.any_nan in
    (l.l ≡ chain_start l.counts l.count-index) × (l.joint ≡ joint_of l.codes l.l)
    × (l.p ≡ l.at + length (runs f 0 l.count-index)) × (l.out ≡ splice l.initial.out l.at (runs f 0 l.count-index))
