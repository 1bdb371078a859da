use mathlib.Core.Path.{◌≡◌, refl, ap, ◌∙◌}
use native.Mathlib.Omega.{arith}
use Rattle.stored_answers.specs.Records.{record_by, records_in, is_case, is_different, sum_of, cases_by, differ_by, state_by, agrees_by, place-next, cases-next, after-next, differ-next}
use Rattle.stored_answers.proofs.tally.tally.Goals as goal

pub loop-i-init : goal.loop-i-init
unfolding record_by sum_of state_by
loop-i-init g c = (refl, omega arith, c.begin-state.ensures, refl, refl, omega arith, omega arith)

pub loop-i-preserved : goal.loop-i-preserved
loop-i-preserved g c =
    let t = g.T.Calls in
    let l = c.loop-i in
    let v = l.invariant in
    let s = c.args.s.now in
    let e = c.counted-t.ensures in (
      place-next t.lists_of s l.i l.at v.0 c.record_end-at.ensures.0,
      omega arith,
      after-next t.lists_of s l.i l.at v.0 t.agrees_of t.after_of t.begun v.2 c.after-state.ensures,
      cases-next t.lists_of s l.i l.at v.0 c.args.call v.3 e.0,
      differ-next t.lists_of s l.i l.at v.0 t.agrees_of t.after_of t.begun v.2 c.args.call v.4 e.2,
      omega arith,
      omega arith,
    )

pub returns : goal.returns
unfolding cases_by differ_by
returns g c =
    let t = g.T.Calls in
    let l = c.loop-i in
    let a = c.args in
    let s = a.s.now in
    let q : l.i ≡ records_in s = omega (arith, c.number_at-n.ensures.0) in (
      l.invariant.3 ∙ ap (sum_of (λ k. is_case s a.call (record_by t.lists_of s k))) q,
      l.invariant.4 ∙ ap (sum_of (λ k. is_different (agrees_by t.agrees_of t.after_of t.begun t.lists_of s k) s a.call (record_by t.lists_of s k))) q,
      omega arith,
      omega arith,
    )
