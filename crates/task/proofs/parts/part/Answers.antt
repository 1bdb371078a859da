-- `part` meets its contract: a range of n floats.
use mathlib.Core.Path.{ap, ◌∙◌}
use native.Mathlib.Omega.{arith}
use lib.ListN.{length}
use Rattle.task.specs.Task.{part_length, part-range}
use Rattle.task.proofs.parts.part.Goals as goal

pub returns : goal.returns
returns c =
    let a = c.args in
    let is = part-range a.at a.n a.task.now in
    (is, ap length is ∙ part_length a.at a.n a.task.now (omega arith))
