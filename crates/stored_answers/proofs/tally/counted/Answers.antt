-- `counted` meets its contract: each return follows the tests before it.
use Rattle.stored_answers.specs.Stored.{number_at}
use mathlib.Core.Path.{◌≡◌, sym, ◌∙◌}
use native.Mathlib.Omega.{arith}
use Rattle.stored_answers.specs.Records.{case-none, case-one, different-none, different-agrees, different-one}
use Rattle.stored_answers.proofs.tally.counted.Goals as goal

pub returns-then-call : goal.returns-then-call
returns-then-call g c =
    let a = c.args in
    let s = a.r.s.now in
    let h : number_at s a.r.at ≡ a.call → ⊥ = λ z. c.if-call.true (c.call.ensures.0 ∙ z) in
    let p = case-none s a.call a.r.at h in
    let q = different-none s a.call a.r.at (g.T.Calls.agrees_of a.state s a.r.at) h in
    (omega arith, omega arith, omega arith, omega arith)

pub returns-then-agrees : goal.returns-then-agrees
returns-then-agrees g c =
    let a = c.args in
    let h = sym c.call.ensures.0 ∙ c.if-call.false in
    let p = case-one a.r.s.now a.call a.r.at h in
    let q = different-agrees a.r.s.now a.call a.r.at _ h (sym c.agrees.ensures ∙ c.if-agrees.true) in
    (omega arith, omega arith, omega arith, omega arith)

pub returns : goal.returns
returns g c =
    let a = c.args in
    let h = sym c.call.ensures.0 ∙ c.if-call.false in
    let p = case-one a.r.s.now a.call a.r.at h in
    let q = different-one a.r.s.now a.call a.r.at _ h (sym c.agrees.ensures ∙ c.if-agrees.false) in
    (omega arith, omega arith, omega arith, omega arith)
