use mathlib.Core.Path.{◌≡◌, refl, sym, ap, ◌∙◌}
use Prim.Native.Nat.{ℕ, ◌+◌}
use native.Mathlib.Omega.{arith}
use lib.ListN.{length, get_or}
use Rattle.sheet.specs.Chain.{chain_start, chain-start-next}
use Rattle.manipulability.specs.View.{seen_by}
use Rattle.manipulability.specs.Jacobian.{manipulability_to, manipulability_of, chain-part, sum-turn}
use Rattle.manipulability.proofs.robot.get_manipulability_immutable.Goals as goal

pub loop-n-init : goal.loop-n-init
unfolding chain_start manipulability_to
loop-n-init c = (refl, refl)

pub overflow_add-r : goal.overflow_add-r
overflow_add-r c = omega (arith, chain-part c.args.counts.now c.args.codes.now c.loop-n.n-index c.loop-n.l c.requires.counted (omega arith) c.loop-n.invariant.0)

pub get_manipulability_immutable-out-requires : goal.get_manipulability_immutable-out-requires
get_manipulability_immutable-out-requires c =
    record {
      part = chain-part c.args.counts.now c.args.codes.now c.loop-n.n-index c.loop-n.l c.requires.counted (omega arith) c.loop-n.invariant.0;
      view = c.requires.view;
    }

pub loop-n-preserved : goal.loop-n-preserved
loop-n-preserved c =
    let a = c.args in
    let ns = a.counts.now in
    let i = c.loop-n.invariant in (
      ap (λ (x : ℕ). x + get_or ns c.loop-n.n-index 0) i.0 ∙ sym (chain-start-next ns c.loop-n.n-index),
      sum-turn (seen_by a.poses) ns a.codes.now c.loop-n.n-index c.loop-n.l c.loop-n.out _ i.0 i.1 c.get_manipulability_immutable-out.ensures,
    )

pub returns : goal.returns
unfolding manipulability_of
returns c =
    let a = c.args in
    let e : c.loop-n.n-index ≡ length a.counts.now = omega arith in
    c.loop-n.invariant.1 ∙ ap (manipulability_to (seen_by a.poses) a.counts.now a.codes.now) e
