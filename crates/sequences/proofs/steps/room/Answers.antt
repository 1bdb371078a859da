-- `room` meets its contract: by what its calls ensure.
use mathlib.Core.Path.{ap, ◌∙◌}
use mathlib.Core.List.{List}
use Prim.Native.Nat.{ℕ}
use native.Mathlib.Omega.{arith}
use lib.ListN.{length}
use Rattle.lent_bytes.specs.Lent.{room_in, room_within}
use Rattle.sequences.proofs.steps.room.Goals as goal

pub returns : goal.returns
returns c =
    let l = c.list-stored.ensures in
    (c.room.ensures ∙ ap (λ (z : List ℕ). room_in (length z)) l.0, omega (arith, c.room.ensures, l.1, room_within (length c.list-stored.result.now)))
