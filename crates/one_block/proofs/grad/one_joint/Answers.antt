-- `one_joint` meets its contract: what is walked again is its joint's copy, the slope is read from it, and the old value gives the block back.
use mathlib.Core.Path.{◌≡◌, sym, ap, ◌∙◌, subst}
use mathlib.Core.List.{List}
use Prim.Native.Nat.{ℕ, ◌*◌, ◌-◌}
use native.Mathlib.Omega.{arith}
use lib.Ieee.{Float}
use lib.ListN.{length, set, length-drop}
use Rattle.std.specs.Prelude.{Some}
use Rattle.lists.specs.Splice.{splice}
use Rattle.sheet.specs.Chain.{end_in, joint_of}
use Rattle.task.specs.Task.{Given, given_of}
use Rattle.spacetime.specs.Walk.{Sheet, before_of}
use Rattle.gradient.specs.Slopes.{step}
use Rattle.gradient.specs.Gradient.{raised_by, gradient_at}
use Rattle.gradient.specs.Ready.{ready-other, kinds-most}
use Rattle.gradient.specs.Made.{raised-length}
use Rattle.manipulability.specs.View.{view_of}
use Rattle.objective_master.specs.Losses.{Lent}
use Rattle.objective_master.specs.Cached.{Cached}
use Rattle.one_block.specs.Record.{joint_entry, link_entry, pose_entry}
use Rattle.one_block.specs.Laws.{before-copy, again-at-joint, again-joint, runs-poses}
use Rattle.one_block.specs.Slope.{slope_to, cached-at, slope-at, slopes-joint}
use Rattle.one_block.proofs.Turn.{turn-within, turn-fits, turn-starts, turn-copied, turn-again, rest}
use Rattle.one_block.proofs.grad.one_joint.Goals as goal

pub raise-old-requires : goal.raise-old-requires
raise-old-requires c = turn-within _ _ _ _ _ c.requires.ready _ _ c.requires.at_turn.0 c.requires.at_turn.1

pub walk_again-next-requires : goal.walk_again-next-requires
walk_again-next-requires c =
    let a = c.args in
    let ns = a.counts.now in
    let cs = a.codes.now in
    let gs = a.floats.now in
    let x = a.block.now in
    let k = a.turn.link in
    let j = a.turn.here.joint in
    let st = c.requires.at_turn.0 in
    let turns = c.requires.at_turn.1 in
    let f = turn-fits _ _ _ _ _ c.requires.ready _ _ st turns in
    let m = c.requires.room in
    let ee = c.chain_end-end.ensures in
    let copied = turn-copied _ _ _ _ _ c.requires.ready _ _ st turns _ c.raise-old.ensures.block_after in record {
      sheet = subst (λ (y : List Float). Sheet ns cs gs y) (sym c.raise-old.ensures.block_after) (ready-other ns cs a.task.now gs x (raised_by step x j) (raised-length step x j) c.requires.ready).sheet;
      link_le_end = omega (arith, ee, f);
      meets = record { number = st.meets.number; met = st.meets.met ∙ before-copy ns cs gs x k turns ∙ ap (λ (y : List Float). before_of ns cs gs y k) (sym copied) };
      room = record { joints-room = omega (arith, ee, f, m); links-room = omega (arith, ee, f, m); frames-room = omega (arith, ee, f, m) };
    }

pub overflow_mul-poses : goal.overflow_mul-poses
overflow_mul-poses c = omega (arith, turn-starts _ _ _ _ _ c.requires.ready _ _ c.requires.at_turn.0 c.requires.at_turn.1 _ _ c.requires.room, c.walk_again-next.auto.frames, c.well_formed)

pub offset_bounds-record-at : goal.offset_bounds-record-at
offset_bounds-record-at c = omega (arith, turn-starts _ _ _ _ _ c.requires.ready _ _ c.requires.at_turn.0 c.requires.at_turn.1 _ _ c.requires.room, c.walk_again-next.auto.frames, c.well_formed)

pub slice_bounds-poses-count : goal.slice_bounds-poses-count
slice_bounds-poses-count c = omega (arith, turn-starts _ _ _ _ _ c.requires.ready _ _ c.requires.at_turn.0 c.requires.at_turn.1 _ _ c.requires.room, c.walk_again-next.auto.frames)

pub slice_bounds-poses-start : goal.slice_bounds-poses-start
slice_bounds-poses-start c = omega (arith, turn-starts _ _ _ _ _ c.requires.ready _ _ c.requires.at_turn.0 c.requires.at_turn.1 _ _ c.requires.room, c.walk_again-next.auto.frames)

pub slope-requires : goal.slope-requires
unfolding given_of
slope-requires c =
    let a = c.args in
    let ns = a.counts.now in
    let cs = a.codes.now in
    let T = a.task.now in
    let gs = a.floats.now in
    let x = a.block.now in
    let p = a.turn.here in
    let st = c.requires.at_turn.0 in
    let turns = c.requires.at_turn.1 in
    let rd = c.requires.ready in
    let kn = c.requires.basis in
    let w = c.walk_again-next in
    let ee = c.chain_end-end.ensures in
    let f = turn-fits _ _ _ _ _ rd _ _ st turns in
    let copied = turn-copied _ _ _ _ _ rd _ _ st turns _ c.raise-old.ensures.block_after in
    let again = turn-again _ _ _ _ _ rd _ _ st turns _ _ c.requires.room _ _ _ c.raise-old.ensures.block_after ee w.ensures.frames_after in
    let many : length w.new.block ≡ length x = ap length w.ensures.block_after ∙ c.raise-old.auto.block in
    let y : List Float = w.new.block in
    let F : List Float = w.new.frames in
    let k = a.turn.link in
    let end : ℕ = c.chain_end-end.result in record {
      kinds_value = (kn.kinds, omega (arith, ap length kn.kinds, kinds-most ns cs T a.picks gs x rd), kn.losses-room);
      lent = subst (λ (t : List Float). Lent ns cs T y F t k end) (sym (rest F (7 * p.at)))
          (record {
            paired = rd.paired;
            chains = rd.chains;
            view = record { first = omega (arith, again.room, w.auto.frames, st.next, f.past); again = omega (arith, again.room, w.auto.frames, ee, length-drop (7 * p.at) F) };
            values = many ∙ rd.sheet.block;
            whole = rd.whole;
          });
      cached = subst (λ (t : List Float). Cached (given_of ns cs T a.picks) (view_of F t k end) y k end (Some p.joint) a.f_0s.now) (sym (rest F (7 * p.at)))
          (cached-at ns cs T a.picks gs x rd k st.inside turns F a.frames.now (7 * p.at) again.first again.walked again.room a.kinds.now a.f_0s.now a.grad.now kn
          y end (w.ensures.block_after ∙ copied) ee p.joint st.meets.number);
    }

pub offset_bounds-grad-joint : goal.offset_bounds-grad-joint
offset_bounds-grad-joint c = omega (arith, turn-within _ _ _ _ _ c.requires.ready _ _ c.requires.at_turn.0 c.requires.at_turn.1, c.requires.basis.slopes-room, c.well_formed)

pub bounds-grad-joint : goal.bounds-grad-joint
bounds-grad-joint c = omega (arith, turn-within _ _ _ _ _ c.requires.ready _ _ c.requires.at_turn.0 c.requires.at_turn.1, c.requires.basis.slopes-room)

pub put_back-requires : goal.put_back-requires
put_back-requires c = omega (arith, turn-within _ _ _ _ _ c.requires.ready _ _ c.requires.at_turn.0 c.requires.at_turn.1, c.walk_again-next.auto.block, c.raise-old.auto.block)

pub returns : goal.returns
unfolding given_of
returns c =
    let a = c.args in
    let ns = a.counts.now in
    let cs = a.codes.now in
    let T = a.task.now in
    let gs = a.floats.now in
    let x = a.block.now in
    let G : Given = given_of ns cs T a.picks in
    let k = a.turn.link in
    let p = a.turn.here in
    let st = c.requires.at_turn.0 in
    let turns = c.requires.at_turn.1 in
    let rd = c.requires.ready in
    let w = c.walk_again-next in
    let j = p.joint in
    let ee : c.chain_end-end.result ≡ end_in ns k = c.chain_end-end.ensures in
    let number : j ≡ joint_of cs k = st.meets.number in
    let copied = turn-copied _ _ _ _ _ rd _ _ st turns _ c.raise-old.ensures.block_after in
    let again = turn-again _ _ _ _ _ rd _ _ st turns _ _ c.requires.room _ _ _ c.raise-old.ensures.block_after ee w.ensures.frames_after in record {
      value = omega (arith, w.ensures.value, ee, again-at-joint ns cs k turns);
      block_after = c.put_back.ensures.block_after_2 x step (w.ensures.block_after ∙ c.raise-old.ensures.block_after) c.raise-old.ensures.value;
      writes = record {
        of-joints = rw (again-joint ns cs k turns joint_entry, ← number, ← ee) w.ensures.joints_after;
        of-links = rw (again-joint ns cs k turns link_entry, ← number, ← ee) w.ensures.links_after;
        of-frames = again.walked ∙ ap (splice a.frames.now (7 * p.at)) (sym (again-joint ns cs k turns (pose_entry ns cs gs x) ∙ runs-poses ns cs gs x (joint_of cs k) k (end_in ns k - k)));
      };
      grad_after = ap (set a.grad.now j)
          (c.slope.ensures
          ∙ ap (λ (t : List Float). slope_to G a.f_0s.now (view_of w.new.frames t k c.chain_end-end.result) w.new.block) (rest w.new.frames (7 * p.at))
          ∙ slope-at ns cs T a.picks gs x rd k st.inside turns w.new.frames a.frames.now (7 * p.at) again.first again.walked again.room a.kinds.now a.f_0s.now a.grad.now c.requires.basis
          w.new.block c.chain_end-end.result (w.ensures.block_after ∙ copied) ee)
          ∙ ap (λ (i : ℕ). set a.grad.now i (gradient_at G gs x (joint_of cs k))) number
          ∙ slopes-joint G gs x k a.grad.now turns;
    }
