-- `tally` meets its contract: each turn makes one record's call and counts it.
use mathlib.Core.Path.{◌≡◌}
use Prim.Native.Nat.{◌+◌, ◌*◌, ◌≤◌}
use Rattle.stored_answers.specs.Records.{is_case, is_different, sum_of, record_by, state_by, agrees_by}
use Rattle.stored_answers.proofs.tally.tally.Given as goal

abbrev pub invariant-loop-i : goal.invariant-loop-i
invariant-loop-i g l =
    let t = g.T.Calls in
    (l.at ≡ record_by t.lists_of l.s l.i) × (l.at ≤ 2 + 1310744 * l.i) × (l.state ≡ state_by t.after_of t.begun t.lists_of l.s l.i)
    × (l.t.cases ≡ sum_of (λ k. is_case l.s l.call (record_by t.lists_of l.s k)) l.i)
    × (l.t.differ ≡ sum_of (λ k. is_different (agrees_by t.agrees_of t.after_of t.begun t.lists_of l.s k) l.s l.call (record_by t.lists_of l.s k)) l.i) × (l.t.cases ≤ l.i) × (l.t.differ ≤ l.i)
