-- `root::near` meets its contract: its two tests are those of `NearRoot`.
use borrow.Author.Tests.{ltb-true}
use mathlib.Core.Path.{refl}
use Rattle.root.proofs.Number.{near-digits}
use Rattle.root.proofs.Halves.{passed}
use Rattle.root.proofs.near.Goals as goal

pub returns : goal.returns
returns c =
    λ e.
    near-digits _ _ c.requires.0 c.requires.1 (passed _ _ _ _ _ _ _ refl refl refl refl refl c.requires.2 c.if-hi-lo.false (ltb-true _ _ e))
