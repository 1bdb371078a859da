use mathlib.Core.Path.{◌≡◌, refl, sym, ap, ◌∙◌}
use Prim.Native.Nat.{◌+◌}
use native.Mathlib.Omega.{arith}
use Rattle.lent_bytes.specs.SheetLists.{same-two}
use Rattle.stored_answers.specs.Records.{sum_of, cases_by, differ_by, agrees_by, sum_more}
use Rattle.stored_answers.proofs.report.each_call.Goals as goal

pub overflow_add-call-end : goal.overflow_add-call-end
overflow_add-call-end g c = omega (arith, g.met.T.Calls.few)

pub loop-call-init : goal.loop-call-init
unfolding sum_of
loop-call-init g c = (refl, refl, omega arith, omega arith)

pub overflow_add-all : goal.overflow_add-all
overflow_add-all g c = omega (arith, g.met.T.Calls.few)

pub overflow_add-all-in-loop-call : goal.overflow_add-all-in-loop-call
overflow_add-all-in-loop-call g c = omega (arith, g.met.T.Calls.few)

pub loop-call-preserved : goal.loop-call-preserved
loop-call-preserved g c =
    let k = g.T.Calls in
    let l = c.loop-call in
    let t = c.tally-t.ensures in
    let s = c.args.s.now in (
      same-two ◌+◌ l.invariant.0 t.0 ∙ sym (sum_more (cases_by k.lists_of s) l.call),
      same-two ◌+◌ l.invariant.1 t.1 ∙ sym (sum_more (differ_by k.lists_of (agrees_by k.agrees_of k.after_of k.begun k.lists_of s) s) l.call),
      omega arith,
      omega arith,
    )

pub returns : goal.returns
returns g c =
    let k = g.T.Calls in
    let l = c.loop-call in
    let s = c.args.s.now in
    let e : l.call ≡ k.LAST + 1 = omega arith in
    (l.invariant.0 ∙ ap (sum_of (cases_by k.lists_of s)) e, l.invariant.1 ∙ ap (sum_of (differ_by k.lists_of (agrees_by k.agrees_of k.after_of k.begun k.lists_of s) s)) e)
