-- `decode` meets its contract: by what the decoder of lists that may be left out tells.
use mathlib.Core.Path.{sym, ap, ◌∙◌}
use native.Mathlib.Omega.{arith}
use lib.ListN.{take}
use lib.Seq.{take_all}
use Rattle.objective_master.specs.Weights.{weight_priors, weights-eight}
use Rattle.objective_bytes.specs.Weights.{left-out-in-force, floats-in-force, wrong-in-force}
use Rattle.objective_bytes.proofs.weights.decode.Goals as goal

pub returns-in-Ok-Some : goal.returns-in-Ok-Some
returns-in-Ok-Some c = let f = rw c.in-Ok-Some.field-0-is at c.in-Ok-Some.ensures in c.new.ensures ∙ f.held.held ∙ sym (floats-in-force _ _ (sym f.told))

pub returns-in-Ok-None : goal.returns-in-Ok-None
returns-in-Ok-None c =
    let f = rw c.in-Ok-None.field-0-is at c.in-Ok-None.ensures in
    c.new-in-Ok-None.ensures ∙ ap (take 8) c.weight_priors.ensures ∙ take_all 8 weight_priors (omega (arith, weights-eight)) ∙ sym (left-out-in-force _ (sym f.told))

pub returns-in-Err : goal.returns-in-Err
returns-in-Err c = let f = c.in-Err.ensures in c.new-in-Err.ensures ∙ f.held.held ∙ sym (wrong-in-force _ (sym f.told))
