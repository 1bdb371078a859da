use mathlib.Core.Path.{◌≡◌, refl, sym, ap, ◌∙◌}
use mathlib.Core.Bool.{not}
use Prim.Native.Nat.{ℕ, ◌+◌, ◌≤◌}
use native.Mathlib.Omega.{arith}
use lib.Dec.{ltb}
use lib.ListN.{length, get_or}
use Rattle.sheet.specs.Chain.{chain_start, joint-zero}
use Rattle.refusals.specs.Range.{every, every-none, every-turn}
use Rattle.sheet.specs.ChainTurn.{next-link, links-inside, next-joint, joint-grows, length-here}
use Rattle.calls.specs.Six.{under_six, any_six}
use Rattle.calls.proofs.measure.any_six.Goals as goal

pub loop-n-init : goal.loop-n-init
unfolding chain_start
loop-n-init c = (sym (every-none _), refl, sym (joint-zero _))

pub overflow_add-link : goal.overflow_add-link
overflow_add-link c =
    let inside : c.loop-n.link + get_or c.args.counts.now c.loop-n.n-index 0 ≤ length c.args.codes.now = links-inside c.args.counts.now c.args.codes.now c.loop-n.n-index c.loop-n.link c.loop-n.invariant.1 c.loop-n-test.true c.requires.0 in
    omega (arith, inside, c.requires.1)

pub joint_number-next-requires : goal.joint_number-next-requires
joint_number-next-requires c =
    let inside : c.loop-n.link + get_or c.args.counts.now c.loop-n.n-index 0 ≤ length c.args.codes.now = links-inside c.args.counts.now c.args.codes.now c.loop-n.n-index c.loop-n.link c.loop-n.invariant.1 c.loop-n-test.true c.requires.0 in
    inside

pub overflow_sub-under : goal.overflow_sub-under
overflow_sub-under c = joint-grows _ _ c.loop-n.n-index c.loop-n.link c.loop-n.invariant.1 _ _ c.loop-n.invariant.2 c.joint_number-next.ensures

pub loop-n-preserved : goal.loop-n-preserved
unfolding under_six
loop-n-preserved c =
    let n = c.joint_number-next in
    let a = c.args in
    let k = c.loop-n.n-index in
    let i = c.loop-n.invariant in (
      every-turn _ _ _ _ _ i.0 (ap (λ (m : ℕ). ltb m 6) (length-here a.counts.now a.codes.now k c.loop-n.link i.1 _ _ i.2 n.ensures)) refl,
      next-link a.counts.now a.codes.now k c.loop-n.link i.1,
      next-joint _ _ k c.loop-n.link i.1 c.loop-n.joint _ i.2 n.ensures,
    )

pub returns : goal.returns
unfolding any_six
returns c =
    let e : c.loop-n.n-index ≡ length c.args.counts.now = omega arith in
    ap not (c.loop-n.invariant.0 ∙ ap (every (under_six c.args.counts.now c.args.codes.now)) e)
