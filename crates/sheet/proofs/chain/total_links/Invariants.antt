-- `chain::total_links` meets its contract: `s` and the chains left make the total, and each chain added 65535 at most.
use mathlib.Core.Path.{◌≡◌}
use Prim.Native.Nat.{◌+◌, ◌*◌, ◌≤◌}
use lib.ListN.{drop}
use Rattle.sheet.specs.Chain.{total}
use Rattle.sheet.proofs.chain.total_links.Given as goal

abbrev pub invariant-loop-n : goal.invariant-loop-n
invariant-loop-n l = (l.s ≤ 65535 * l.n-index) × (total l.counts ≡ l.s + total (drop l.n-index l.counts))
