use mathlib.Core.Path.{◌≡◌, refl, sym, ap, ◌∙◌, subst}
use mathlib.Core.List.{List}
use Prim.Native.Nat.{ℕ, ◌+◌, ◌*◌, ◌<◌}
use native.Mathlib.Omega.{arith}
use lib.Ieee.{Float}
use lib.ListN.{length, take}
use Rattle.lists.specs.Splice.{splice, take-splice-before}
use Rattle.lists.specs.Runs.{runs, splice-turn-at, splice-start-at}
use Rattle.lists.specs.Listed.{listed, listed-none}
use Rattle.sheet.specs.Chain.{first-zero, joint_of, joint-zero, joint-mono, joint-last}
use Rattle.task.specs.Task.{Given, given_of}
use Rattle.spacetime.specs.Walk.{frames_of, start-zero}
use Rattle.gradient.specs.Gradient.{losses_at, gradient_at}
use Rattle.gradient.specs.Ready.{Ready}
use Rattle.one_block.specs.Record.{again_of, joint_entry, link_entry, pose_entry, place_after_turn, Meets}
use Rattle.one_block.specs.Laws.{joint-entry, link-entry, pose-entry, entries_over, below-entries, below_none, below_more, length-below, turn_at_lem, turn-meets}
use Rattle.one_block.specs.Slope.{slopes_after, slopes-turn, slopes-all}
use Rattle.one_block.specs.declared.grad.Turn.{Turn}
use Rattle.one_block.proofs.grad.every_joint.Goals as goal

pub loop-link-init : goal.loop-link-init
loop-link-init c =
    let a = c.args in
    let ns = a.counts.now in
    let cs = a.codes.now in
    let T = a.task.now in
    let gs = a.floats.now in
    let x = a.block.now in
    let G : Given = given_of ns cs T a.picks in
    let n = length cs in
    let slope : ℕ → Float = gradient_at G gs x in (
      record { number = sym (joint-zero cs); met = start-zero ns cs gs x _ (first-zero ns) },
      omega (arith, below_none ns cs),
      refl,
      splice-start-at (again_of joint_entry ns cs) a.joints.now n,
      splice-start-at (again_of link_entry ns cs) a.links.now n,
      splice-start-at (again_of (pose_entry ns cs gs x) ns cs) a.frames.now (7 * n),
      listed-none slope a.grad.now ∙ ap (λ (m : ℕ). splice a.grad.now 0 (listed slope m)) (sym (joint-zero cs)),
    )

pub link_turn-p-requires : goal.link_turn-p-requires
link_turn-p-requires c =
    let a = c.args in
    let ns = a.counts.now in
    let cs = a.codes.now in
    let T = a.task.now in
    let gs = a.floats.now in
    let x = a.block.now in
    let G : Given = given_of ns cs T a.picks in
    let n = length cs in
    let i = c.loop-link.invariant in
    let r = c.requires.room in record {
      ready = subst (λ (y : List Float). Ready ns cs T gs y) (sym i.2) c.requires.ready;
      room = record { joints-room = omega (arith, r, c.loop-link.auto.joints); links-room = omega (arith, r, c.loop-link.auto.links); frames-room = omega (arith, r, c.loop-link.auto.frames) };
      at_turn = record {
        inside = c.loop-link-test.true;
        meets = subst (λ (y : List Float). Meets ns cs gs y c.loop-link.link c.loop-link.p) (sym i.2) i.0;
        next = i.1;
        walked =
            ap (take (7 * n)) i.5
            ∙ take-splice-before a.frames.now (7 * n) (7 * n) (runs (again_of (pose_entry ns cs gs x) ns cs) 0 c.loop-link.link) (omega arith) (omega (arith, r, entries_over ns cs))
            ∙ c.requires.frames_value ∙ ap (frames_of ns cs gs) (sym i.2);
      };
      basis = record {
        kinds = c.requires.basis.kinds;
        losses = c.requires.basis.losses ∙ ap (losses_at G gs) (sym i.2);
        losses-room = c.requires.basis.losses-room;
        slopes-room = omega (arith, c.requires.basis.slopes-room, c.loop-link.auto.grad, ap length i.2);
      };
    }

pub loop-link-preserved : goal.loop-link-preserved
unfolding given_of
loop-link-preserved c =
    let a = c.args in
    let ns = a.counts.now in
    let cs = a.codes.now in
    let T = a.task.now in
    let gs = a.floats.now in
    let x = a.block.now in
    let G : Given = given_of ns cs T a.picks in
    let n = length cs in
    let i = c.loop-link.invariant in
    let t = c.link_turn-p in
    let k = c.loop-link.link in
    let p = c.loop-link.p in
    let u : Turn = record { link = k; here = p } in
    let lt : k < n = c.loop-link-test.true in
    let r = c.requires.room in
    let m = below-entries ns cs k (omega (arith, lt)) in
    let turned : t.result ≡ place_after_turn ns cs gs x u = t.ensures.value ∙ ap (λ (y : List Float). place_after_turn ns cs gs y u) i.2 in
    let e = t.ensures.writes in
    let lj = length-below joint_entry 1 joint-entry ns cs k in
    let ll = length-below link_entry 1 link-entry ns cs k in
    let lp = length-below (pose_entry ns cs gs x) 7 (pose-entry ns cs gs x) ns cs k in (
      turn-meets ns cs gs x u t.result i.0 turned,
      omega (arith, i.1, turn_at_lem ns cs gs x u t.result turned, below_more ns cs k),
      t.ensures.block_after ∙ i.2,
      splice-turn-at (again_of joint_entry ns cs) a.joints.now c.loop-link.joints _ n p.at k i.3 (omega (arith, i.1, lj)) (omega (arith, r, m, lj)) e.of-joints,
      splice-turn-at (again_of link_entry ns cs) a.links.now c.loop-link.links _ n p.at k i.4 (omega (arith, i.1, ll)) (omega (arith, r, m, ll)) e.of-links,
      splice-turn-at (again_of (pose_entry ns cs gs x) ns cs) a.frames.now c.loop-link.frames _ (7 * n) (7 * p.at) k i.5 (omega (arith, i.1, lp)) (omega (arith, r, m, lp))
          (e.of-frames ∙ ap (λ (y : List Float). splice c.loop-link.frames (7 * p.at) (again_of (pose_entry ns cs gs y) ns cs k)) i.2),
      slopes-turn G gs x a.grad.now c.loop-link.grad _ k i.6 c.loop-link.auto.grad (omega (arith, joint-mono cs (k + 1) n (omega arith), joint-last cs, c.requires.ready.sheet.block, c.requires.basis.slopes-room))
          (t.ensures.grad_after ∙ ap (λ (y : List Float). slopes_after G gs y k c.loop-link.grad) i.2),
    )

pub returns : goal.returns
returns c =
    let a = c.args in
    let ns = a.counts.now in
    let cs = a.codes.now in
    let T = a.task.now in
    let gs = a.floats.now in
    let x = a.block.now in
    let G : Given = given_of ns cs T a.picks in
    let n = length cs in
    let i = c.loop-link.invariant in
    let e : c.loop-link.link ≡ n = omega (arith, c.loop-link-test.false) in
    let last : joint_of cs c.loop-link.link ≡ length x = ap (joint_of cs) e ∙ joint-last cs ∙ sym c.requires.ready.sheet.block in record {
      block_after = i.2;
      grad_after = i.6 ∙ ap (λ (m : ℕ). splice a.grad.now 0 (listed (gradient_at G gs x) m)) last ∙ ap (splice a.grad.now 0) (slopes-all G gs x);
      writes = record {
        of-joints = i.3 ∙ ap (λ (z : ℕ). splice a.joints.now n (runs (again_of joint_entry ns cs) 0 z)) e;
        of-links = i.4 ∙ ap (λ (z : ℕ). splice a.links.now n (runs (again_of link_entry ns cs) 0 z)) e;
        of-frames = i.5 ∙ ap (λ (z : ℕ). splice a.frames.now (7 * n) (runs (again_of (pose_entry ns cs gs x) ns cs) 0 z)) e;
      };
    }
