-- `lent::history_fits` meets its contract. The loop carries the answer for the links passed, each in all four blocks, and the number of the
-- next joint; link by link is block by block.
use mathlib.Core.Path.{◌≡◌}
use mathlib.Core.Bool.{Bool}
use mathlib.Core.List.{List}
use Prim.Native.Nat.{ℕ, ◌*◌, ◌≤◌}
use lib.Ieee.{Float}
use lib.ListN.{length}
use Rattle.sheet.specs.Chain.{joint_of}
use Rattle.refusals.specs.Range.{every}
use Rattle.refusals.specs.Refusal.{link_value_fits}
use Rattle.refusals.proofs.lent.history_fits.Given as goal

-- link l's joint fits in all four blocks
abbrev link_four : List ℕ → List Float → ℕ → ℕ → Bool
link_four codes history n l = every (λ (b : ℕ). link_value_fits codes history (b * n) l) 4

abbrev pub invariant-loop-l : goal.invariant-loop-l
invariant-loop-l l = (l.l ≤ length l.codes) × (l.ok ≡ every (link_four l.codes l.history l.n) l.l) × (l.j ≡ joint_of l.codes l.l)
