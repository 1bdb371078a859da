-- `pair_count` meets its contract: turn after turn one link more.
use mathlib.Core.Path.{◌≡◌}
use Prim.Native.Nat.{◌-◌, ◌*◌, ◌≤◌}
use Rattle.self_collision.specs.Pairs.{triangle}
use Rattle.objective_master.proofs.count.pair_count.Given as goal

abbrev pub invariant-loop-k : goal.invariant-loop-k
invariant-loop-k l = (2 ≤ l.k) × (l.k - 2 ≤ l.n - 2) × (l.s ≡ triangle (l.k - 2)) × (l.s ≤ 16 * (l.k - 2))
