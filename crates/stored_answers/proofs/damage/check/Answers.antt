use mathlib.Core.Path.{refl}
use native.Mathlib.Omega.{arith}
use borrow.Author.Tests.{le-ltb}
use Rattle.std.proofs.lemmas.Result.{err_from_is_err_and}
use Rattle.stored_answers.specs.Records.{record_by, damage_to, damage-short, damage-next, damage-first, damage-behind, damage-none, place-next}
use Rattle.stored_answers.specs.Damage.{damage-some}
use Rattle.stored_answers.proofs.damage.check.Goals as goal

pub returns-then-s-lt2 : goal.returns-then-s-lt2
returns-then-s-lt2 g c = let t = g.T.Calls in damage-short t.lists_of t.LAST c.args.s.now c.if-s-lt2.true

pub loop-i-init : goal.loop-i-init
unfolding record_by damage_to
loop-i-init g c = (refl, omega arith, rw (le-ltb _ 2 c.if-s-lt2.false))

pub returns-in_err-record_damage : goal.returns-in_err-record_damage
returns-in_err-record_damage g c =
    let t = g.T.Calls in
    let l = c.loop-i in
    let s = c.args.s.now in
    let p = err_from_is_err_and c.from_residual.result c.from_residual.ensures.1 in
    rw (p.1, p.2) (damage-first t.lists_of t.LAST s l.i (omega (arith, c.number_at-n.ensures.0)) (damage-next t.lists_of t.LAST s l.i l.at l.invariant.0 l.invariant.2 c.in_err-record_damage.ensures) (damage-some c.in_err-record_damage.field-0.0))

pub loop-i-preserved : goal.loop-i-preserved
loop-i-preserved g c =
    let t = g.T.Calls in
    let l = c.loop-i in
    let s = c.args.s.now in
    (place-next t.lists_of s l.i l.at l.invariant.0 c.record_end-at.ensures.0, omega arith, damage-next t.lists_of t.LAST s l.i l.at l.invariant.0 l.invariant.2 c.in_ok-record_damage.ensures)

pub returns-then-at-s : goal.returns-then-at-s
returns-then-at-s g c =
    let t = g.T.Calls in
    let l = c.loop-i in
    damage-behind t.lists_of t.LAST c.args.s.now l.i l.at (omega (arith, c.number_at-n.ensures.0)) l.invariant.0 l.invariant.2 c.if-at-s.true

pub returns : goal.returns
returns g c =
    let t = g.T.Calls in
    let l = c.loop-i in
    damage-none t.lists_of t.LAST c.args.s.now l.i l.at (omega (arith, c.number_at-n.ensures.0)) l.invariant.0 l.invariant.2 c.if-at-s.false
