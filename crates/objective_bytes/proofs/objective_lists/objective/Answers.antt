-- `objective` meets its contract: there is room for the value's bytes.
use mathlib.Core.Path.{sym}
use native.Mathlib.Omega.{arith}
use lib.ListN.{length}
use Rattle.arm_bytes.specs.ArmLaws.{bytes_fit}
use Rattle.objective_bytes.proofs.objective_lists.objective.Goals as goal

pub put_floats-requires : goal.put_floats-requires
put_floats-requires c = omega (arith, bytes_fit 1 (length c.args.value.now) _ c.room.ensures (sym c.in_ok-room_refusal.ensures))
