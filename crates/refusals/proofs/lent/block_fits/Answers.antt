use mathlib.Core.Path.{◌≡◌, refl, sym, ap, ◌∙◌}
use Prim.Native.Nat.{◌+◌, ◌≤◌}
use native.Mathlib.Omega.{arith}
use lib.ListN.{length, get_or}
use Rattle.sheet.specs.Chain.{joints_of, joint-zero, joint-more, joint-mono, joint-last}
use Rattle.refusals.specs.Range.{every, every-none, every-turn}
use Rattle.refusals.specs.Refusal.{value_fits, link_value_fits, block_fits}
use Rattle.refusals.proofs.lent.block_fits.Goals as goal

pub loop-l-init : goal.loop-l-init
loop-l-init c = (omega arith, sym (every-none _), omega (arith, joint-zero c.args.codes.now))

pub value_fits-ok-requires : goal.value_fits-ok-requires
value_fits-ok-requires c =
    let inside : c.loop-l.j + joints_of (get_or c.args.codes.now c.loop-l.l 0) ≤ length c.args.block.now = let cs = c.args.codes.now in
    let l = c.loop-l.l in
    omega (arith, c.loop-l.invariant.2, joint-more cs l, joint-mono cs (l + 1) (length cs) (omega (arith, c.loop-l-test.true)), joint-last cs, c.requires) in
    omega (arith, inside)

pub next_joint-j-requires : goal.next_joint-j-requires
next_joint-j-requires c =
    let inside : c.loop-l.j + joints_of (get_or c.args.codes.now c.loop-l.l 0) ≤ length c.args.block.now = let cs = c.args.codes.now in
    let l = c.loop-l.l in
    omega (arith, c.loop-l.invariant.2, joint-more cs l, joint-mono cs (l + 1) (length cs) (omega (arith, c.loop-l-test.true)), joint-last cs, c.requires) in
    (c.loop-l-test.true, omega (arith, inside, c.well_formed))

pub loop-l-preserved : goal.loop-l-preserved
unfolding link_value_fits
loop-l-preserved c =
    let i = c.loop-l.invariant in (
      omega arith,
      every-turn _ _ _ _ _ i.1 (c.value_fits-ok.ensures ∙ ap (value_fits _ c.args.block.now) i.2) refl,
      omega (arith, c.next_joint-j.ensures, joint-more c.args.codes.now c.loop-l.l, i.2),
    )

pub returns : goal.returns
unfolding block_fits
returns c = let e : c.loop-l.l ≡ length c.args.codes.now = omega arith in c.loop-l.invariant.1 ∙ ap (every _) e
