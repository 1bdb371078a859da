-- `put` meets its contract: a list written to the front of a part.
use mathlib.Core.Path.{ap, ◌∙◌}
use mathlib.Core.List.{List, ◌++◌}
use Prim.Native.Nat.{◌-◌}
use native.Mathlib.Omega.{arith}
use lib.Ieee.{Float}
use lib.ListN.{length, take, drop}
use Rattle.task.specs.Laid.{put-splice}
use Rattle.task.proofs.lay.put.Goals as goal

pub returns : goal.returns
returns c =
    let a = c.args in
    let t = a.task.now in
    let k = length t - a.at in
    ap (λ (l : List Float). take a.at t ++ (l ++ drop k (drop a.at t))) c.copy.ensures
    ∙ put-splice t a.at k a.src.now (omega arith) (omega arith)
