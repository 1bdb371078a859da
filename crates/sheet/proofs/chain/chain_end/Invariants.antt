-- `chain::chain_end` meets its contract. The loop's invariant: the end is `s` past the end among the chains left, and each chain added 65535 at most.
use mathlib.Core.Path.{◌≡◌}
use Prim.Native.Nat.{◌+◌, ◌*◌, ◌≤◌}
use lib.ListN.{drop}
use Rattle.sheet.specs.Chain.{end_in}
use Rattle.sheet.proofs.chain.chain_end.Given as goal

abbrev pub invariant-loop-n : goal.invariant-loop-n
invariant-loop-n l = (l.s ≤ 65535 * l.n-index) × (end_in l.counts l.link ≡ l.s + end_in (drop l.n-index l.counts) l.k)
