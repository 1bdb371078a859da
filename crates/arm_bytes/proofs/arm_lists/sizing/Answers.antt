-- `sizing` meets its contract: a sheet's refusal writes nothing; else its plan is put, or refused for want of room.
use mathlib.Core.Path.{sym, ap, ◌∙◌, subst}
use Rattle.lists.specs.Splice.{splice}
use Rattle.refusals.specs.Lowest.{first-zero, first_some}
use Rattle.refusals.specs.Number.{number_of, passed-on}
use Rattle.calls.specs.Arms.{if_taken}
use Rattle.sizing.specs.declared.plan.Plan.{Plan}
use Rattle.sizing.specs.Sizing.{Small, plan_list, plan-small, planned-is, refused-is}
use Rattle.lent_bytes.specs.Lent.{bytes_of_numbers}
use Rattle.arm_bytes.specs.ArmCalls.{sizing_number, plan_numbers}
use Rattle.arm_bytes.proofs.arm_lists.sizing.Goals as goal

pub returns-in_err-p-clause-number : goal.returns-in_err-p-clause-number
unfolding sizing_number
returns-in_err-p-clause-number c =
    let a = refused-is _ _ _ _ _ (sym c.in_err-p.ensures) in
    passed-on c.from_residual.result _ c.from_residual.ensures.1 ∙ a.1 ∙ sym (first_some _ _ (λ z. a.0 (a.1 ∙ z)))

pub put_plan-requires : goal.put_plan-requires
put_plan-requires c =
    let a = planned-is _ _ _ _ _ (sym c.in_ok-p.ensures) in
    subst Small (sym a.1) (plan-small _ _ _ _ a.0)

pub returns-clause-number : goal.returns-clause-number
unfolding sizing_number
returns-clause-number c =
    c.put_plan.ensures.number ∙ sym (first-zero _ _ (planned-is _ _ _ _ _ (sym c.in_ok-p.ensures)).0)

pub returns-clause-plan : goal.returns-clause-plan
unfolding plan_numbers
returns-clause-plan c =
    let out = c.args.plan.now in
    c.put_plan.ensures.out
    ∙ ap (λ (p : Plan). if_taken (number_of c.put_plan.result) out (splice out 0 (bytes_of_numbers (plan_list p)))) (planned-is _ _ _ _ _ (sym c.in_ok-p.ensures)).1
