use mathlib.Core.Path.{◌≡◌, refl, sym, ap, ◌∙◌}
use mathlib.Core.Bool.{not, ◌||◌}
use Prim.Native.Nat.{ℕ, ◌+◌, ◌-◌, ◌≤◌}
use native.Mathlib.Omega.{arith}
use lib.Dec.{leb, eqb}
use lib.ListN.{length, get_or}
use borrow.Author.Tests.{lt-ltb, le-ltb}
use Rattle.sheet.specs.Chain.{chain_start, chain-start-total, joint_of, joints, joint-last, joint-zero, chain_length}
use Rattle.refusals.specs.Range.{every, every-none, every-turn}
use Rattle.refusals.specs.Refusal.{two_joints, later_fits, bad_joints}
use Rattle.sheet.specs.ChainTurn.{next-link, links-inside, next-joint, joint-grows, length-here}
use Rattle.refusals.proofs.shape.bad_joints.Goals as goal

pub overflow_cast-most : goal.overflow_cast-most
overflow_cast-most c = omega (arith, c.type_inv.counts 0)

pub loop-c-init : goal.loop-c-init
unfolding chain_start
loop-c-init c = (omega arith, sym (every-none _), sym (every-none _), refl, sym (joint-zero _))

pub overflow_cast-link : goal.overflow_cast-link
overflow_cast-link c = omega (arith, c.type_inv.counts c.loop-c.c)

pub overflow_add-link : goal.overflow_add-link
overflow_add-link c =
    let inside : c.loop-c.link + get_or c.args.counts.now c.loop-c.c 0 ≤ length c.args.codes.now = links-inside c.args.counts.now c.args.codes.now c.loop-c.c c.loop-c.link c.loop-c.invariant.3 c.loop-c-test.true c.requires.1 in
    omega (arith, inside)

pub joint_number-next-requires : goal.joint_number-next-requires
joint_number-next-requires c =
    let inside : c.loop-c.link + get_or c.args.counts.now c.loop-c.c 0 ≤ length c.args.codes.now = links-inside c.args.counts.now c.args.codes.now c.loop-c.c c.loop-c.link c.loop-c.invariant.3 c.loop-c-test.true c.requires.1 in
    inside

pub overflow_sub-moving : goal.overflow_sub-moving
overflow_sub-moving c =
    let grows : c.loop-c.joint ≤ c.joint_number-next.result = joint-grows _ _ c.loop-c.c c.loop-c.link c.loop-c.invariant.3 _ _ c.loop-c.invariant.4 c.joint_number-next.ensures in
    grows

pub loop-c-preserved : goal.loop-c-preserved
unfolding two_joints later_fits
loop-c-preserved c =
    let counted : c.joint_number-next.result - c.loop-c.joint ≡ chain_length c.args.counts.now c.args.codes.now c.loop-c.c = length-here _ _ c.loop-c.c c.loop-c.link c.loop-c.invariant.3 _ _ c.loop-c.invariant.4 c.joint_number-next.ensures in
    let most = get_or c.args.counts.now 0 0 in (
      omega arith,
      every-turn _ _ _ _ _ c.loop-c.invariant.1 (ap (leb 2) (counted)) refl,
      every-turn _ _ _ _ _ c.loop-c.invariant.2 (c.later_fits-few.ensures ∙ ap (λ (k : ℕ). eqb c.loop-c.c 0 || leb k most) (counted)) refl,
      next-link c.args.counts.now c.args.codes.now c.loop-c.c c.loop-c.link c.loop-c.invariant.3,
      next-joint _ _ c.loop-c.c c.loop-c.link c.loop-c.invariant.3 c.loop-c.joint _ c.loop-c.invariant.4 c.joint_number-next.ensures,
    )

pub returns-then-not-two : goal.returns-then-not-two
unfolding bad_joints
returns-then-not-two c =
    let last : c.loop-c.c ≡ length c.args.counts.now = omega arith in
    let all_two : every (two_joints c.args.counts.now c.args.codes.now) (length c.args.counts.now) ≡ c.loop-c.two = sym (c.loop-c.invariant.1 ∙ ap (every (two_joints c.args.counts.now c.args.codes.now)) (last)) in
    rw (all_two ∙ c.if-not-two.true)

pub returns-then-joint-gt16 : goal.returns-then-joint-gt16
unfolding bad_joints
returns-then-joint-gt16 c =
    let last : c.loop-c.c ≡ length c.args.counts.now = omega arith in
    let all_two : every (two_joints c.args.counts.now c.args.codes.now) (length c.args.counts.now) ≡ c.loop-c.two = sym (c.loop-c.invariant.1 ∙ ap (every (two_joints c.args.counts.now c.args.codes.now)) (last)) in
    let all-joints : c.loop-c.joint ≡ joints c.args.codes.now = let ns = c.args.counts.now in
    let cs = c.args.codes.now in
    c.loop-c.invariant.4 ∙ ap (λ (k : ℕ). joint_of cs (chain_start ns k)) (last) ∙ ap (joint_of cs) (chain-start-total ns ∙ c.requires.1) ∙ joint-last cs in
    rw (all_two ∙ c.if-not-two.false, lt-ltb 16 _ (rw (all-joints) at c.if-joint-gt16.true))

pub returns : goal.returns
unfolding bad_joints
returns c =
    let last : c.loop-c.c ≡ length c.args.counts.now = omega arith in
    let all_two : every (two_joints c.args.counts.now c.args.codes.now) (length c.args.counts.now) ≡ c.loop-c.two = sym (c.loop-c.invariant.1 ∙ ap (every (two_joints c.args.counts.now c.args.codes.now)) (last)) in
    let all-later : every (later_fits c.args.counts.now c.args.codes.now) (length c.args.counts.now) ≡ c.loop-c.few = sym (c.loop-c.invariant.2 ∙ ap (every (later_fits c.args.counts.now c.args.codes.now)) (last)) in
    let all-joints : c.loop-c.joint ≡ joints c.args.codes.now = let ns = c.args.counts.now in
    let cs = c.args.codes.now in
    c.loop-c.invariant.4 ∙ ap (λ (k : ℕ). joint_of cs (chain_start ns k)) (last) ∙ ap (joint_of cs) (chain-start-total ns ∙ c.requires.1) ∙ joint-last cs in
    rw (all_two ∙ c.if-not-two.false, le-ltb 16 _ (rw (all-joints) at c.if-joint-gt16.false)) (ap not (sym (all-later)))
