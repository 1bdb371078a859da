use mathlib.Core.Path.{refl}
use native.Mathlib.Omega.{arith}
use native.Mathlib.Numerals.{add-one}
use Rattle.stored_answers.specs.Stored.{place_of}
use Rattle.stored_answers.proofs.stored.Record.place.Goals as goal

pub loop-i-init : goal.loop-i-init
unfolding place_of
loop-i-init c = (refl, omega arith)

pub loop-i-preserved : goal.loop-i-preserved
unfolding place_of
loop-i-preserved c = (rw add-one (cc), omega arith)
