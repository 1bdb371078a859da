-- `list` meets its contract: by what its calls ensure.
use Rattle.stored_answers.specs.Stored.{list_of}
use borrow.Author.Rules.{rules}
use Rattle.stored_answers.proofs.stored.Record.list.Goals as goal

pub returns : goal.returns
unfolding list_of
returns c = (cc, search rules)
