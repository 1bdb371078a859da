-- `number_room` meets its contract: by what its calls ensure.
use mathlib.Core.Path.{ap, ◌∙◌}
use mathlib.Core.List.{List}
use Prim.Native.Nat.{ℕ}
use native.Mathlib.Omega.{arith}
use lib.ListN.{length}
use Rattle.lent_bytes.specs.Lent.{number_room_in, number-room-within}
use Rattle.sequences.proofs.steps.number_room.Goals as goal

pub returns : goal.returns
returns c =
    let l = c.list-stored.ensures in
    (c.number_room.ensures ∙ ap (λ (z : List ℕ). number_room_in (length z)) l.0, omega (arith, c.number_room.ensures, l.1, number-room-within (length c.list-stored.result.now)))
