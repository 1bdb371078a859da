-- `weight` meets its contract: past the list a NaN.
use mathlib.Core.Path.{sym}
use native.Mathlib.Omega.{arith}
use lib.Ieee.{nan, div, of_bits}
use lib.ListN.{get_or-eq_default}
use Rattle.objective_master.proofs.weights.weight.Goals as goal

pub returns : goal.returns
unfolding div of_bits
returns c =
    let a = c.args in
    sym (get_or-eq_default a.weights.now nan {n = a.kind} (omega arith))
