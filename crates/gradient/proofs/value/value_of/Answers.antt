-- `value_of` meets its contract: the losses, then their weighted sum.
use mathlib.Core.Path.{ap, ◌∙◌}
use mathlib.Core.List.{List}
use lib.Ieee.{Float}
use Rattle.task.specs.Task.{given_of}
use Rattle.objective_master.specs.Weights.{weighted_by}
use Rattle.gradient.specs.Made.{value_made}
use Rattle.gradient.proofs.value.value_of.Goals as goal

pub returns : goal.returns
unfolding given_of
returns c =
    let f = c.losses_of in
    let a = c.args in
    let ns = a.counts.now in
    let cs = a.codes.now in
    let T = a.task.now in
    let gs = a.floats.now in
    let x = a.x.now in
    let out = f.new.out in record {
      value = c.weighted_sum.ensures
          ∙ ap (λ (ws : List Float). weighted_by ws a.kinds.now out) c.weights.ensures.0
          ∙ value_made (given_of ns cs T a.picks) gs x a.kinds.now c.requires.ready.1 a.out.now out c.requires.codes_in_bounds.1 f.ensures;
      out_after = f.ensures;
    }
