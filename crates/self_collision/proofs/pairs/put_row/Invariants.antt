-- `put_row` meets its contract: turn after turn one pair more.
use mathlib.Core.Path.{◌≡◌}
use Prim.Native.Nat.{◌+◌, ◌-◌, ◌≤◌}
use Rattle.lists.specs.Splice.{splice}
use Rattle.lists.specs.Runs.{runs}
use Rattle.manipulability.specs.View.{seen_by}
use Rattle.self_collision.specs.Pairs.{pair_at, loss_from}
use Rattle.self_collision.proofs.pairs.put_row.Given as goal

abbrev pub invariant-loop-k : goal.invariant-loop-k
invariant-loop-k l =
    (l.j + 2 ≤ l.k) × (l.p ≡ l.at + (l.k - (l.j + 2)))
    × (l.out ≡ splice l.initial.out l.at (runs (pair_at (loss_from (seen_by l.poses) l.first l.any_nan) l.j) (l.j + 2) (l.k - (l.j + 2))))
