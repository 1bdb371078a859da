-- `each_call` meets its contract: each turn adds one call's counts.
use mathlib.Core.Path.{◌≡◌}
use Prim.Native.Nat.{◌*◌, ◌≤◌}
use Rattle.stored_answers.specs.Records.{sum_of, cases_by, differ_by, agrees_by}
use Rattle.stored_answers.proofs.report.each_call.Given as goal

abbrev pub invariant-loop-call : goal.invariant-loop-call
invariant-loop-call g l =
    let t = g.T.Calls in
    (l.all.cases ≡ sum_of (cases_by t.lists_of l.s) l.call) × (l.all.differ ≡ sum_of (differ_by t.lists_of (agrees_by t.agrees_of t.after_of t.begun t.lists_of l.s) l.s) l.call)
    × (l.all.cases ≤ 65535 * l.call) × (l.all.differ ≤ 65535 * l.call)
