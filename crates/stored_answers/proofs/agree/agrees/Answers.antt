use Rattle.std.proofs.Common.{◌≡◌, ◌+◌, suc, map, sym, ap, ◌∙◌, arith}
use lib.Seq.{drop-cons}
use lib.ListN.{drop_of_length-le}
use Rattle.stored_answers.specs.Agree.{outputs_agree, outputs-none, outputs-not, outputs-next, answer-not, answer-number}
use Rattle.stored_answers.proofs.agree.agrees.Goals as goal

pub returns-then-number : goal.returns-then-number
returns-then-number c = sym (answer-not _ _ _ c.args.k _ (λ e. c.if-number.true (e ∙ sym c.number.ensures.0)))

pub loop-i-init : goal.loop-i-init
loop-i-init c =
    let z : c.args.k + 0 ≡ c.args.k = omega arith in
    rw z (answer-number _ _ _ c.args.k _ (c.if-number.false ∙ c.number.ensures.0))

pub returns-then-not-same : goal.returns-then-not-same
returns-then-not-same c =
    let l = c.loop-i in
    let a = c.args in
    let d = drop-cons a.outputs.now l.i _ c.loop-i-test.true in
    sym (l.invariant ∙ ap (λ os. outputs_agree a.r.s.now a.r.at (a.k + l.i) (map (λ o. o.now) os)) d
    ∙ outputs-not _ _ _ _ _ (rw c.list.ensures.0 at (sym c.same.ensures ∙ c.if-not-same.true)))

pub loop-i-preserved : goal.loop-i-preserved
loop-i-preserved c =
    let l = c.loop-i in
    let a = c.args in
    let d = drop-cons a.outputs.now l.i _ c.loop-i-test.true in
    let z : a.k + (l.i + 1) ≡ a.k + l.i + 1 = omega arith in
    let w : l.i + 1 ≡ suc l.i = omega arith in
    rw (z, w) (l.invariant ∙ ap (λ os. outputs_agree a.r.s.now a.r.at (a.k + l.i) (map (λ o. o.now) os)) d
    ∙ outputs-next _ _ _ _ _ (rw c.list.ensures.0 at (sym c.same.ensures ∙ c.if-not-same.false)))

pub returns : goal.returns
returns c =
    let a = c.args in
    let l = c.loop-i in
    let d = drop_of_length-le a.outputs.now (omega arith) in
    sym (l.invariant ∙ ap (λ os. outputs_agree a.r.s.now a.r.at (a.k + l.i) (map (λ o. o.now) os)) d ∙ outputs-none _ _ _)
