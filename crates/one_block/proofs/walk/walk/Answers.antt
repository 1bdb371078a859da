use mathlib.Core.Path.{sym, ap, ◌∙◌}
use Prim.Native.Nat.{◌*◌, ◌≤◌}
use native.Mathlib.Omega.{arith}
use Rattle.lists.specs.Splice.{splice}
use Rattle.lists.specs.Runs.{splice-turn, splice-start}
use Rattle.spacetime.specs.Walk.{poses, poses-length, flat-made}
use Rattle.one_block.specs.Record.{joint_entry, link_entry}
use Rattle.one_block.specs.Laws.{joint-entry, link-entry, pose-walked, meets-next, at_next, walked_none, walked_more}
use Rattle.one_block.proofs.walk.walk.Goals as goal

pub loop-link-init : goal.loop-link-init
loop-link-init c =
    let a = c.args in (
      omega arith,
      c.requires.meets,
      splice-start (joint_entry a.raised) 1 (joint-entry a.raised) a.joints.now a.here.at a.from,
      splice-start (link_entry a.raised) 1 (link-entry a.raised) a.links.now a.here.at a.from,
      splice-start (poses a.counts.now a.codes.now a.floats.now a.block.now) 7 (poses-length a.counts.now a.codes.now a.floats.now a.block.now) a.frames.now (7 * a.here.at) a.from,
      sym (walked_none a.counts.now a.codes.now a.floats.now a.block.now a.from a.here),
    )

pub loop-link-preserved : goal.loop-link-preserved
unfolding joint_entry link_entry
loop-link-preserved c =
    let a = c.args in
    let k = c.loop-link.link in
    let p = c.loop-link.p in
    let i = c.loop-link.invariant in
    let w = c.walk_link-p in
    let from : a.from ≤ k = omega arith in
    let ns = a.counts.now in
    let cs = a.codes.now in
    let gs = a.floats.now in
    let x = a.block.now in (
      at_next ns cs gs x k p w.result i.1 w.ensures.value ∙ omega arith,
      meets-next ns cs gs x k p w.result i.1 w.ensures.value,
      splice-turn (joint_entry a.raised) 1 (joint-entry a.raised) a.joints.now c.loop-link.joints _ a.here.at p.at a.from k from i.2 (omega arith) (omega (arith, c.requires.room)) w.ensures.joints_after,
      splice-turn (link_entry a.raised) 1 (link-entry a.raised) a.links.now c.loop-link.links _ a.here.at p.at a.from k from i.3 (omega arith) (omega (arith, c.requires.room)) w.ensures.links_after,
      splice-turn (poses ns cs gs x) 7 (poses-length ns cs gs x) a.frames.now c.loop-link.frames _ (7 * a.here.at) (7 * p.at) a.from k from i.4 (omega arith) (omega (arith, c.requires.room))
          (w.ensures.frames_after ∙ ap (splice c.loop-link.frames (7 * p.at)) (flat-made ns cs gs x k w.result.pose (pose-walked ns cs gs x k p w.result i.1 w.ensures.value))),
      walked_more ns cs gs x a.from a.here k p w.result from i.5 w.ensures.value,
    )
