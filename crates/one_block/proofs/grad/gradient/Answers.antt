-- `gradient` meets its contract: the kinds, the first walk and its losses, then every joint's turn.
use mathlib.Core.Path.{ap, ◌∙◌}
use mathlib.Core.List.{List}
use Prim.Native.Nat.{ℕ, ◌*◌}
use native.Mathlib.Omega.{arith}
use lib.Ieee.{Float}
use lib.ListN.{length, take, replicate}
use Rattle.standins.specs.Num.{nought}
use Rattle.lists.specs.Splice.{splice, splice-splice, part-splice}
use Rattle.lists.specs.Runs.{runs, length_runs}
use Rattle.task.specs.Task.{Given, given_of}
use Rattle.spacetime.specs.Walk.{frames_of}
use Rattle.objective_master.specs.Kinds.{kinds-length}
use Rattle.objective_master.specs.Weights.{weighted_by}
use Rattle.gradient.specs.Ready.{kinds-most, kinds-listed, lent-whole, cached-whole, losses-walked}
use Rattle.gradient.specs.Made.{losses-front, value_made}
use Rattle.one_block.specs.Record.{again_of, record_of, joint_entry, link_entry, pose_entry, record_joints, record_links, record_poses}
use Rattle.one_block.specs.Laws.{joint-entry, link-entry, pose-entry, frames-length, entries_over, first-poses}
use Rattle.one_block.proofs.grad.gradient.Goals as goal

pub relaxed_ik-n-requires : goal.relaxed_ik-n-requires
relaxed_ik-n-requires c =
    let a = c.args in
    let ns = a.counts.now in
    let cs = a.codes.now in
    let T = a.task.now in
    let gs = a.floats.now in
    let x = a.block.now in
    let r = c.requires.ready.0 in record {
      counted = (r.paired.counted, r.sheet.chains);
      codes_in_bounds = omega (arith, kinds-most ns cs T a.picks gs x r, kinds-length a.picks ns cs);
    }

pub slice_bounds-list-end : goal.slice_bounds-list-end
slice_bounds-list-end c =
    let k = c.relaxed_ik-n in
    (kinds-listed _ _ _ _ _ _ c.requires.ready.0 _ _ _ k.auto.kinds k.ensures.value k.ensures.kinds_after).within

pub slice_bounds-kinds-end : goal.slice_bounds-kinds-end
slice_bounds-kinds-end c =
    let k = c.relaxed_ik-n in
    (kinds-listed _ _ _ _ _ _ c.requires.ready.0 _ _ _ k.auto.kinds k.ensures.value k.ensures.kinds_after).many

pub first_walk-requires : goal.first_walk-requires
first_walk-requires c =
    let o = entries_over c.args.counts.now c.args.codes.now in record {
      sheet = c.requires.ready.0.sheet;
      room = record { joints-room = omega (arith, o, c.requires.room); links-room = omega (arith, o, c.requires.room); frames-room = omega (arith, o, c.requires.room) };
    }

pub put_losses-requires : goal.put_losses-requires
put_losses-requires c =
    let a = c.args in
    let ns = a.counts.now in
    let cs = a.codes.now in
    let T = a.task.now in
    let gs = a.floats.now in
    let x = a.block.now in
    let w = c.first_walk in
    let r = c.requires.ready.0 in record {
      lent = lent-whole ns cs T a.picks gs x r w.new.frames (omega (arith, c.requires.room, entries_over ns cs, w.auto.frames));
      cached = cached-whole ns cs T a.picks gs x r _ _ (kinds-most ns cs T a.picks gs x r);
    }

pub every_joint-requires : goal.every_joint-requires
unfolding given_of
every_joint-requires c =
    let k = c.relaxed_ik-n in
    let listed = kinds-listed _ _ _ _ _ _ c.requires.ready.0 _ _ _ k.auto.kinds k.ensures.value k.ensures.kinds_after in
    let losses₀ = c.put_losses.new.out in
    let made = c.put_losses.ensures ∙ ap (splice (replicate 131 nought) 0) (losses-walked _ _ _ _ _ _ c.requires.ready.0 _ _ (omega (arith, c.requires.room, entries_over c.args.counts.now c.args.codes.now)) c.first_walk.ensures.frames_after) in
    let w = c.first_walk in
    let a = c.args in
    let ns = a.counts.now in
    let cs = a.codes.now in
    let T = a.task.now in
    let gs = a.floats.now in
    let x = a.block.now in
    let G : Given = given_of ns cs T a.picks in
    let n = length cs in
    let rd = c.requires.ready.0 in record {
      ready = rd;
      room = record { joints-room = omega (arith, c.requires.room, w.auto.joints); links-room = omega (arith, c.requires.room, w.auto.links); frames-room = omega (arith, c.requires.room, w.auto.frames) };
      frames_value = ap (take (7 * n)) w.ensures.frames_after ∙ part-splice a.frames.now 0 (7 * n) (frames_of ns cs gs x) (omega arith) (frames-length ns cs gs x);
      basis = record {
        kinds = listed.front;
        losses = losses-front G gs x (replicate 131 nought) losses₀ _ (ap length listed.front ∙ kinds-length a.picks ns cs) made;
        losses-room = omega (arith, listed.few, c.put_losses.auto.out);
        slopes-room = c.requires.ready.1;
      };
    }

pub returns : goal.returns
unfolding record_joints record_links record_poses record_of given_of
returns c =
    let k = c.relaxed_ik-n in
    let listed = kinds-listed _ _ _ _ _ _ c.requires.ready.0 _ _ _ k.auto.kinds k.ensures.value k.ensures.kinds_after in
    let losses₀ = c.put_losses.new.out in
    let made = c.put_losses.ensures ∙ ap (splice (replicate 131 nought) 0) (losses-walked _ _ _ _ _ _ c.requires.ready.0 _ _ (omega (arith, c.requires.room, entries_over c.args.counts.now c.args.codes.now)) c.first_walk.ensures.frames_after) in
    let w = c.first_walk in
    let t = c.every_joint in
    let a = c.args in
    let ns = a.counts.now in
    let cs = a.codes.now in
    let T = a.task.now in
    let gs = a.floats.now in
    let x = a.block.now in
    let G : Given = given_of ns cs T a.picks in
    let n = length cs in
    let o = entries_over ns cs in
    let ks = take c.relaxed_ik-n.result c.relaxed_ik-n.new.kinds in
    let again-joints = runs (again_of joint_entry ns cs) 0 n in
    let again-links = runs (again_of link_entry ns cs) 0 n in
    let again-poses = runs (again_of (pose_entry ns cs gs x) ns cs) 0 n in
    let lj = length_runs (joint_entry 65535) 1 (joint-entry 65535) 0 n in
    let ll = length_runs (link_entry 65535) 1 (link-entry 65535) 0 n in
    let lp = length_runs (pose_entry ns cs gs x 65535) 7 (pose-entry ns cs gs x 65535) 0 n in record {
      value = c.weighted_sum.ensures ∙ ap (λ (ws : List Float). weighted_by ws ks losses₀) c.weights.ensures.0
          ∙ value_made G gs x ks listed.front (replicate 131 nought) losses₀ listed.few made;
      grad_after = t.ensures.grad_after;
      block_after = t.ensures.block_after;
      joints_after = (
        t.ensures.writes.of-joints ∙ ap (λ (y : List ℕ). splice y n again-joints) w.ensures.joints_after
            ∙ splice-splice a.joints.now 0 n (runs (joint_entry 65535) 0 n) again-joints (omega (arith, lj)) (omega (arith, lj, c.requires.room, o)),
        t.ensures.writes.of-links ∙ ap (λ (y : List ℕ). splice y n again-links) w.ensures.links_after
            ∙ splice-splice a.links.now 0 n (runs (link_entry 65535) 0 n) again-links (omega (arith, ll)) (omega (arith, ll, c.requires.room, o)),
      );
      frames_after = t.ensures.writes.of-frames ∙ ap (λ (y : List Float). splice y (7 * n) again-poses) (w.ensures.frames_after ∙ ap (splice a.frames.now 0) (first-poses ns cs gs x))
          ∙ splice-splice a.frames.now 0 (7 * n) (runs (pose_entry ns cs gs x 65535) 0 n) again-poses (omega (arith, lp)) (omega (arith, lp, c.requires.room, o));
    }
