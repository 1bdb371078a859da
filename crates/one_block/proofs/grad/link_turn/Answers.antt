-- `link_turn` meets its contract: a fixed link adds nothing, another what `one_joint` adds.
use mathlib.Core.Path.{◌≡◌, refl, sym, ◌∙◌}
use Prim.Native.Nat.{◌*◌}
use native.Mathlib.Omega.{arith}
use lib.ListN.{get_or}
use Rattle.sheet.specs.Code.{joint-there, joint-missing}
use Rattle.sheet.specs.Chain.{joint-le, joints-fixed, joints-one}
use Rattle.task.specs.Task.{Given, given_of}
use Rattle.one_block.specs.Record.{joint_entry, link_entry, pose_entry}
use Rattle.one_block.specs.Laws.{turn_is, entries_over, again-at-fixed, again-fixed}
use Rattle.one_block.specs.Slope.{slopes-fixed}
use Rattle.one_block.proofs.grad.link_turn.Goals as goal

pub get-pose-requires : goal.get-pose-requires
get-pose-requires c = omega (arith, c.requires.room, c.requires.at_turn.inside, entries_over c.args.counts.now c.args.codes.now)

pub returns-then-not-has_joint_at : goal.returns-then-not-has_joint_at
unfolding given_of
returns-then-not-has_joint_at c =
    let a = c.args in
    let ns = a.counts.now in
    let cs = a.codes.now in
    let T = a.task.now in
    let gs = a.floats.now in
    let x = a.block.now in
    let G : Given = given_of ns cs T a.picks in
    let k = a.turn.link in
    let at = a.turn.here.at in
    let z = joint-missing (get_or cs k 0) (sym c.has_joint_at.ensures ∙ c.if-not-has_joint_at.true) in record {
      value = turn_is ns cs gs x a.turn _ a.frames.now c.requires.at_turn (omega (arith, again-at-fixed ns cs k z)) (omega (arith, joints-fixed (get_or cs k 0) z)) c.get-pose.ensures;
      block_after = refl;
      writes = record {
        of-joints = again-fixed ns cs k z joint_entry a.joints.now at;
        of-links = again-fixed ns cs k z link_entry a.links.now at;
        of-frames = again-fixed ns cs k z (pose_entry ns cs gs x) a.frames.now (7 * at);
      };
      grad_after = slopes-fixed G gs x k a.grad.now z;
    }

pub one_joint-next-requires : goal.one_joint-next-requires
one_joint-next-requires c =
    let has-joint : let a = c.args in get_or a.codes.now a.turn.link 0 ≡ 0 → ⊥ = joint-there _ (sym c.has_joint_at.ensures ∙ c.if-not-has_joint_at.false) in
    record {
      ready = c.requires.ready;
      room = c.requires.room;
      at_turn = (c.requires.at_turn, has-joint);
      basis = c.requires.basis;
    }

pub overflow_add-result : goal.overflow_add-result
overflow_add-result c = omega (arith, c.requires.ready.sheet.links, c.requires.at_turn.inside, c.requires.at_turn.meets.number, joint-le c.args.codes.now c.args.turn.link)

pub returns : goal.returns
returns c =
    let has-joint : let a = c.args in get_or a.codes.now a.turn.link 0 ≡ 0 → ⊥ = joint-there _ (sym c.has_joint_at.ensures ∙ c.if-not-has_joint_at.false) in
    let a = c.args in
    let cs = a.codes.now in
    let o = c.one_joint-next in record {
      value = turn_is a.counts.now cs a.floats.now a.block.now a.turn _ a.frames.now c.requires.at_turn o.ensures.value (omega (arith, joints-one (get_or cs a.turn.link 0) (has-joint))) c.get-pose.ensures;
      block_after = o.ensures.block_after;
      writes = o.ensures.writes;
      grad_after = o.ensures.grad_after;
    }
