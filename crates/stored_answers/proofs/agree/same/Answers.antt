-- `same` meets its contract: the definition is the test that `==` makes.
use mathlib.Core.Path.{◌∙◌}
use Rattle.stored_answers.specs.Agree.{same-eq}
use Rattle.stored_answers.proofs.agree.same.Goals as goal

pub returns : goal.returns
returns c = c.eq.ensures ∙ same-eq c.args.a.now c.args.b.now
