-- `strict` meets its contract: by what its calls ensure of the pick's list.
use mathlib.Core.Path.{ap, ◌∙◌}
use mathlib.Core.List.{List}
use Prim.Native.Nat.{ℕ}
use Rattle.lent_bytes.specs.Picks.{picks_from}
use Rattle.stored_answers.specs.Stored.{number_at}
use Rattle.sequences.proofs.asked.strict.Goals as goal

pub returns : goal.returns
returns c = ap (λ (n : ℕ). (picks_from n).strict) (c.number_at.ensures.0 ∙ ap (λ (l : List ℕ). number_at l 0) c.list.ensures.0)
