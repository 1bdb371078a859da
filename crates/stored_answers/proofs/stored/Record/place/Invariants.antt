-- `place` meets its contract: each turn passes one list.
use mathlib.Core.Path.{◌≡◌}
use Prim.Native.Nat.{◌+◌, ◌*◌, ◌≤◌}
use Rattle.stored_answers.specs.Stored.{place_of}
use Rattle.stored_answers.proofs.stored.Record.place.Given as goal

abbrev pub invariant-loop-i : goal.invariant-loop-i
invariant-loop-i l = (l.p ≡ place_of l.self.s.now l.self.at l.i) × (l.p ≤ l.self.at + 4 + 65537 * l.i)
