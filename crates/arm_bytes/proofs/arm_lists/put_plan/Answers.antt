-- `put_plan` meets its contract: where there is room the four numbers are put.
use mathlib.Core.Path.{refl, sym, ◌∙◌}
use native.Mathlib.Omega.{arith}
use lib.ListN.{length}
use Rattle.refusals.specs.Passed.{room-passed}
use Rattle.calls.specs.Arms.{taken}
use Rattle.sizing.specs.Sizing.{plan_list}
use Rattle.lent_bytes.specs.Lent.{number-room-within}
use Rattle.arm_bytes.proofs.arm_lists.put_plan.Goals as goal

pub put_numbers-requires : goal.put_numbers-requires
put_numbers-requires c =
    omega (arith, room-passed 4 _ (sym c.in_ok-room_refusal.ensures), c.number_room.ensures, number-room-within (length c.args.out.now))

pub returns-clause-out : goal.returns-clause-out
unfolding plan_list
returns-clause-out c = c.put_numbers.ensures ∙ sym (taken 0 _ _ refl)
