-- `gradient` meets its contract: the joints in front of scratch are the block that is raised and put back.
use mathlib.Core.Path.{◌≡◌, ap, ◌∙◌}
use mathlib.Core.List.{List}
use lib.Ieee.{Float}
use lib.ListN.{length, take}
use Rattle.lists.specs.Splice.{splice}
use Rattle.task.specs.Task.{Given, given_of}
use Rattle.gradient.specs.Gradient.{value_at, slopes_of}
use Rattle.gradient.specs.Made.{copied-front, front_kept}
use Rattle.gradient.proofs.gradient.gradient.Goals as goal

pub returns : goal.returns
returns c =
    let a = c.args in
    let ns = a.counts.now in
    let cs = a.codes.now in
    let T = a.task.now in
    let gs = a.floats.now in
    let x = a.joints.now in
    let G : Given = given_of ns cs T a.picks in
    let f = c.copy in
    let t = c.gradient_on in
    let e : take (length x) f.new.dst ≡ x = copied-front a.scratch.now x f.new.dst f.ensures in record {
      value = t.ensures.value ∙ ap (value_at G gs) e;
      slopes_after = t.ensures.slopes_after ∙ ap (λ (y : List Float). splice a.slopes.now 0 (slopes_of a.rule G gs y)) e;
      scratch_after = front_kept a.scratch.now x f.new.dst t.new.scratch f.ensures t.ensures.scratch_unchanged;
    }
