-- `weighted_slope` meets its contract: the slopes, then their weighted sum.
use mathlib.Core.Path.{◌∙◌}
use Rattle.gradient.specs.Slopes.{slope_between, slopes-sum}
use Rattle.gradient.proofs.slopes.weighted_slope.Goals as goal

pub returns : goal.returns
returns c =
    let p = c.put_slopes in
    let a = c.args in
    c.weighted_sum.ensures
    ∙ slopes-sum a.weights.now a.kinds.now (slope_between a.f_0s.now a.f_hs.now) a.f_hs.now p.new.f_hs c.requires.1 p.ensures
