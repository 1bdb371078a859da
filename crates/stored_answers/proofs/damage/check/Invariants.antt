-- `check` meets its contract: the first damage found is the list's.
use mathlib.Core.Path.{◌≡◌}
use Prim.Native.Nat.{◌+◌, ◌*◌, ◌≤◌}
use Rattle.stored_answers.specs.Records.{record_by, damage_to}
use Rattle.stored_answers.proofs.damage.check.Given as goal

abbrev pub invariant-loop-i : goal.invariant-loop-i
invariant-loop-i g l =
    (l.at ≡ record_by g.T.Calls.lists_of l.s l.i) × (l.at ≤ 2 + 1310744 * l.i) × (damage_to g.T.Calls.lists_of g.T.Calls.LAST l.s l.i ≡ 0)
