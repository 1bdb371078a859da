-- `number` meets its contract: by what its call ensures.
use mathlib.Core.Path.{sym, ap, ◌∙◌}
use lib.Dec.{eqb}
use Rattle.stored_answers.specs.Agree.{agrees-none}
use Rattle.sequences.proofs.agree.number.Goals as goal

pub returns : goal.returns
returns c = ap (eqb c.args.number) c.number.ensures.0 ∙ sym (agrees-none _ _ _ 0)
