-- `put_chain` meets its contract: turn after turn one link's pairs more.
use mathlib.Core.Path.{◌≡◌}
use Prim.Native.Nat.{◌+◌}
use lib.ListN.{length}
use Rattle.lists.specs.Splice.{splice}
use Rattle.lists.specs.Runs.{runs}
use Rattle.manipulability.specs.View.{seen_by}
use Rattle.self_collision.specs.Pairs.{pairs_from, loss_from}
use Rattle.self_collision.proofs.pairs.put_chain.Given as goal

abbrev pub invariant-loop-j : goal.invariant-loop-j
invariant-loop-j l =
    let f = pairs_from (loss_from (seen_by l.poses) l.first l.any_nan) l.n in
    (l.p ≡ l.at + length (runs f 0 l.j)) × (l.out ≡ splice l.initial.out l.at (runs f 0 l.j))
