-- `chain::is_first` meets its contract. The loop's invariant: the answer is that of the chains left for the links left of `link`.
use mathlib.Core.Path.{◌≡◌}
use lib.ListN.{drop}
use Rattle.sheet.specs.Chain.{first_in}
use Rattle.sheet.proofs.chain.is_first.Given as goal

abbrev pub invariant-loop-n : goal.invariant-loop-n
invariant-loop-n l = first_in l.counts l.link ≡ first_in (drop l.n-index l.counts) l.k
