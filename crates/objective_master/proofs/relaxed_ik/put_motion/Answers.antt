-- `put_motion` meets its contract: a list written to the front of a part.
use mathlib.Core.Path.{ap, ◌∙◌}
use mathlib.Core.List.{List, ◌++◌}
use Prim.Native.Nat.{ℕ, ◌-◌}
use native.Mathlib.Omega.{arith}
use lib.ListN.{length, take, drop}
use Rattle.task.specs.Laid.{put-splice}
use Rattle.objective_master.specs.Kinds.{motion_kinds}
use Rattle.objective_master.proofs.relaxed_ik.put_motion.Goals as goal

pub returns : goal.returns
unfolding motion_kinds
returns c =
    let a = c.args in
    let t = a.kinds.now in
    let k = length t - a.at in
    ap (λ (l : List ℕ). take a.at t ++ (l ++ drop k (drop a.at t))) c.copy.ensures
    ∙ put-splice t a.at k motion_kinds (omega arith) (omega arith)
