-- `lengths::ends_length` meets its contract: by its definition.
use Rattle.refusals.specs.Lengths.{ends_length}
use borrow.Author.Rules.{rules}
use Rattle.refusals.proofs.lengths.ends_length.Goals as goal

pub returns : goal.returns
unfolding ends_length
returns c = search rules
