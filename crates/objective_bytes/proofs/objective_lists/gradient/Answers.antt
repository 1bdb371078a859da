-- `gradient` meets its contract: the outputs are the bytes of joints, value and slopes.
use mathlib.Core.Path.{refl, sym, ap, ◌∙◌}
use mathlib.Core.List.{List}
use native.Mathlib.Omega.{arith}
use lib.Ieee.{Float}
use lib.ListN.{length}
use Rattle.lists.specs.Splice.{splice}
use Rattle.calls.specs.Arms.{taken}
use Rattle.lent_bytes.specs.Lent.{front, bytes_of}
use Rattle.lent_bytes.specs.SheetLists.{sheet_with}
use Rattle.objective_bytes.specs.ObjectiveCalls.{task_with}
use Rattle.objective_bytes.specs.ObjectiveLaws.{slopes-fitted, slopes-in-length}
use Rattle.objective_bytes.proofs.objective_lists.gradient.Goals as goal

pub slopes_on-v-requires : goal.slopes_on-v-requires
slopes_on-v-requires c =
    let a = c.args in
    let t = slopes-fitted (sheet_with a.sizes.now a.codes.now a.floats.now a.limits.now) (task_with a.goals.now a.history.now a.weights.now a.tools.now) a.joints.now
    (length a.scratch.now) (length a.value.now) (length a.slopes.now) (sym c.in_ok-slopes_refusal.ensures) in
    (t.accepted, refl, refl)

pub put_answers-requires : goal.put_answers-requires
put_answers-requires c =
    let a = c.args in
    let t = slopes-fitted (sheet_with a.sizes.now a.codes.now a.floats.now a.limits.now) (task_with a.goals.now a.history.now a.weights.now a.tools.now) a.joints.now
    (length a.scratch.now) (length a.value.now) (length a.slopes.now) (sym c.in_ok-slopes_refusal.ensures) in
    let g = c.slopes_on-v in record {
      n_in_bounds = (omega (arith, t.few, g.auto.scratch), omega (arith, t.few, g.auto.slopes));
      n_in_bounds_2 = (t.scratch, t.value, t.slopes);
    }

pub returns-clause-scratch : goal.returns-clause-scratch
returns-clause-scratch c =
    let a = c.args in
    let x = a.joints.now in
    c.put_answers.ensures.scratch_after ∙ ap (λ (y : List Float). splice a.scratch.now 0 (bytes_of y)) (front _ _ x (length x) c.slopes_on-v.ensures.scratch_after refl) ∙ sym (taken 0 _ _ refl)

pub returns-clause-slopes : goal.returns-clause-slopes
returns-clause-slopes c =
    let a = c.args in
    let x = a.joints.now in
    let l = slopes-in-length a.rule (sheet_with a.sizes.now a.codes.now a.floats.now a.limits.now) (task_with a.goals.now a.history.now a.weights.now a.tools.now) a.picks x in
    c.put_answers.ensures.slopes_after ∙ ap (λ (y : List Float). splice a.slopes.now 0 (bytes_of y)) (front _ _ _ (length x) c.slopes_on-v.ensures.slopes_after l) ∙ sym (taken 0 _ _ refl)
