-- `sizing` meets its contract: a refusal keeps its number, and a sheet that is taken is one whose lengths can be planned.
use mathlib.Core.Path.{◌≡◌, sym, ap, ◌∙◌}
use mathlib.Core.List.{List}
use Prim.Native.Nat.{ℕ}
use Rattle.std.specs.Prelude.{Ok}
use Rattle.refusals.specs.Number.{number_of, passed-on, refused-some, refusal-there}
use Rattle.refusals.specs.Refusal.{sizing_refusal}
use Rattle.sizing.specs.Sizing.{plan_of, sizing-refused, sizing-taken, sizing-accepted}
use Rattle.sizing.proofs.sizing.sizing.Goals as goal

pub returns-in_err-sizing_refusal : goal.returns-in_err-sizing_refusal
returns-in_err-sizing_refusal c =
    let r = c.from_residual.result in
    let same : number_of r ≡ sizing_refusal c.args.sizes.now c.args.codes.now c.args.floats.now = passed-on r _ c.from_residual.ensures.1 ∙ c.in_err-sizing_refusal.ensures in
    let some = λ (z : sizing_refusal c.args.sizes.now c.args.codes.now c.args.floats.now ≡ 0). refused-some r c.from_residual.ensures.0 (same ∙ z) in
    refusal-there r _ same some ∙ sym (sizing-refused _ _ _ _ some)

pub of_sheet-requires : goal.of_sheet-requires
of_sheet-requires c =
    let a = c.args in
    rw c.links.ensures (sizing-accepted a.picks a.sizes.now a.codes.now a.floats.now (sym c.in_ok-sizing_refusal.ensures))

pub returns : goal.returns
returns c =
    let a = c.args in
    ap Ok (c.of_sheet.ensures ∙ ap (λ (ns : List ℕ). plan_of a.picks ns a.codes.now) c.links.ensures) ∙ sym (sizing-taken _ _ _ _ (sym c.in_ok-sizing_refusal.ensures))
