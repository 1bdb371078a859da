-- `manipulability` meets its contract: chains under six joints add up to 0; else the view is that of the walk's poses.
use mathlib.Core.Path.{refl, sym, ◌∙◌}
use native.Mathlib.Omega.{arith}
use Rattle.manipulability.specs.View.{view-list}
use Rattle.manipulability.specs.Jacobian.{manipulability-ext}
use Rattle.calls.specs.Arms.{sheet-of, walked}
use Rattle.calls.specs.Answer.{value_taken}
use Rattle.calls.specs.Six.{none-six}
use Rattle.calls.proofs.measure.manipulability.Goals as goal

pub returns-then-not-any_six-clause-value : goal.returns-then-not-any_six-clause-value
returns-then-not-any_six-clause-value c =
    sym (value_taken 0 _ refl ∙ none-six _ _ _ (sym c.any_six.ensures ∙ c.if-not-any_six.true))

pub get_frames_immutable-requires-clause-sheet : goal.get_frames_immutable-requires-clause-sheet
get_frames_immutable-requires-clause-sheet c = sheet-of _ _ _ _ c.requires (sym c.in_ok-block_refusal.ensures)

pub returns-clause-value : goal.returns-clause-value
returns-clause-value c =
    let a = c.args in
    let ns = a.counts.now in
    let w = walked ns a.codes.now a.floats.now a.block.now _ _ c.requires (omega arith) c.get_frames_immutable.ensures in
    c.get_manipulability_immutable.ensures ∙ manipulability-ext _ _ ns a.codes.now (λ l h. view-list _ _ l ∙ w l h) ∙ sym (value_taken 0 _ refl)
