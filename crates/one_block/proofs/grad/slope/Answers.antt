-- `slope` meets its contract: the first losses are copied, those that are touched are made anew, and all become slopes.
use mathlib.Core.Path.{ap, ◌∙◌}
use lib.ListN.{length}
use Rattle.task.specs.Task.{Given, given_of}
use Rattle.manipulability.specs.View.{seen_by}
use Rattle.objective_master.specs.Kinds.{kinds-length}
use Rattle.one_block.specs.Slope.{cached-front, slope-made}
use Rattle.std.specs.Prelude.{Some}
use Rattle.one_block.proofs.grad.slope.Goals as goal

pub put_losses-requires : goal.put_losses-requires
unfolding given_of
put_losses-requires c =
    let a = c.args in
    let G : Given = given_of a.counts.now a.codes.now a.task.now a.picks in
    let f = c.copy in
    let p = c.requires.kinds_value in record {
      lent = c.requires.lent;
      cached = cached-front G (seen_by a.poses) a.x.now a.poses.from a.poses.to (Some a.joint) (length a.kinds.now) a.f_0s.now _ f.new.dst c.requires.cached (ap length p.0 ∙ kinds-length a.picks a.counts.now a.codes.now) p.2 p.1 f.ensures;
    }

pub returns : goal.returns
unfolding given_of
returns c =
    let a = c.args in
    let G : Given = given_of a.counts.now a.codes.now a.task.now a.picks in
    let l = c.put_losses in
    c.weighted_slope.ensures
    ∙ slope-made G (seen_by a.poses) a.x.now a.f_0s.now c.copy.new.dst l.new.out _ a.kinds.now c.weights.ensures.0 c.requires.kinds_value.0 l.ensures
