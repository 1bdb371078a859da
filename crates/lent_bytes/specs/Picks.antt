-- What a byte call's numbers pick: 0 is not picked, any other number is.
use Rattle.std.specs.Prelude.{◌≡◌, refl, not, true, false, ℕ, eqb}
use Rattle.std.proofs.Common.{ne_eqb}
use Rattle.task.specs.declared.picks.Picks.{Picks}

abbrev pub picks_from : ℕ → Picks
picks_from strict = record { strict = not (eqb strict 0) }

-- ---- laws
pub nought-tolerance : (picks_from 0).strict ≡ false
nought-tolerance = refl

pub other-strict : (n : ℕ) → (n ≡ 0 → ⊥) → (picks_from n).strict ≡ true
other-strict n h = rw (ne_eqb n 0 h)
