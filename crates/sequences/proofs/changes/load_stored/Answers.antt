-- `load_stored` meets its contract: by what its calls ensure of the decoded lists.
use mathlib.Core.Path.{ap, ◌∙◌}
use Rattle.lent_bytes.specs.Lent.{numbers_in, floats_in}
use Rattle.state_calls.specs.Load.{load_of}
use Rattle.stored_answers.specs.Same.{same-four}
use Rattle.sequences.proofs.changes.load_stored.Goals as goal

pub returns : goal.returns
returns c =
    c.load.ensures
    ∙ same-four (load_of c.args.state)
    (c.deref.ensures ∙ c.refill.ensures ∙ ap (numbers_in 8) c.list.ensures.0)
    (c.deref-2.ensures ∙ c.refill-2.ensures ∙ ap (numbers_in 80) c.list-2.ensures.0)
    (c.deref-3.ensures ∙ c.refill-3.ensures ∙ ap (floats_in 512) c.list-3.ensures.0)
    (c.deref-4.ensures ∙ c.refill-4.ensures ∙ ap (floats_in 64) c.list-4.ensures.0)
