-- `losses_of` meets its contract: every link is walked, so no loss has to stand.
use mathlib.Core.Path.{ap, ◌∙◌}
use native.Mathlib.Omega.{arith}
use lib.ListN.{length}
use Rattle.lists.specs.Splice.{splice}
use Rattle.manipulability.specs.View.{view_of}
use Rattle.gradient.specs.Ready.{lent-whole, cached-whole, losses-walked}
use Rattle.gradient.proofs.value.losses_of.Goals as goal

pub put_losses-requires : goal.put_losses-requires
put_losses-requires c =
    let f = c.get_frames_immutable in
    let a = c.args in
    let ns = a.counts.now in
    let cs = a.codes.now in
    let T = a.task.now in
    let gs = a.floats.now in
    let x = a.x.now in
    let ps = f.new.out in record {
      lent = lent-whole ns cs T a.picks gs x c.requires.ready ps (omega (arith, c.requires.codes_in_bounds, f.auto.out));
      cached = cached-whole ns cs T a.picks gs x c.requires.ready (view_of ps ps 0 (length cs)) a.out.now c.requires.codes_in_bounds.1;
    }

pub returns : goal.returns
returns c =
    let f = c.get_frames_immutable in
    let a = c.args in
    let ns = a.counts.now in
    let cs = a.codes.now in
    let T = a.task.now in
    let gs = a.floats.now in
    let x = a.x.now in
    c.put_losses.ensures
    ∙ ap (splice a.out.now 0) (losses-walked ns cs T a.picks gs x c.requires.ready a.poses.now f.new.out c.requires.codes_in_bounds.0 f.ensures)
