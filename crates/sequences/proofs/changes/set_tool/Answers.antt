-- `set_tool` meets its contract: by what its calls ensure of the decoded list and the chain's number.
use mathlib.Core.Path.{ap, ◌∙◌}
use Rattle.lent_bytes.specs.SheetLists.{same-two}
use Rattle.state_calls.specs.Tools.{set_tool_of}
use Rattle.stored_answers.specs.Stored.{number_at}
use Rattle.sequences.proofs.changes.set_tool.Goals as goal

pub returns : goal.returns
returns c =
    c.set_tool.ensures
    ∙ same-two (set_tool_of c.args.state) (c.number_at-chain.ensures.0 ∙ ap (λ l. number_at l 0) c.list.ensures.0) (c.deref.ensures ∙ c.floats.ensures)
