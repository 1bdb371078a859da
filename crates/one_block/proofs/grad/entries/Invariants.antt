-- `entries` meets its contract: link after link what its joint adds.
use mathlib.Core.Path.{◌≡◌}
use Prim.Native.Nat.{◌+◌}
use lib.ListN.{length}
use Rattle.one_block.specs.Record.{again_below}
use Rattle.one_block.proofs.grad.entries.Given as goal

abbrev pub invariant-loop-link : goal.invariant-loop-link
invariant-loop-link l = l.n ≡ length l.codes + again_below l.counts l.codes l.link
