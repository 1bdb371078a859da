-- `exp` meets its contract: each return follows the tests before it.
use mathlib.Core.Path.{◌≡◌, refl, ap, ◌∙◌}
use lib.Ieee.{binary64, of_int, of_bits}
use Rattle.standins.specs.Num.{whole, nought-over-nought}
use Rattle.standins.specs.Series.{squarings, exp_of}
use Rattle.standins.proofs.series.exp.Goals as goal

least : of_bits binary64 0x4085_e000_0000_0000 ≡ whole 700
unfolding of_bits of_int
least = refl

parts : of_bits binary64 0x4090_0000_0000_0000 ≡ whole 1024
unfolding of_bits of_int
parts = refl

pub returns-then-y : goal.returns-then-y
unfolding exp_of
returns-then-y c = rw (← least, c.if-y.true)

pub returns-then-y-2 : goal.returns-then-y-2
unfolding exp_of
returns-then-y-2 c = rw (← least, c.if-y.false, c.if-y-2.true) nought-over-nought

pub returns-then-y-3 : goal.returns-then-y-3
unfolding exp_of
returns-then-y-3 c = rw (← least, c.if-y.false, c.if-y-2.false, c.if-y-3.true) nought-over-nought

pub returns : goal.returns
unfolding exp_of
returns c =
    rw (← least, c.if-y.false, c.if-y-2.false, c.if-y-3.false, ← parts)
    (c.squared.ensures ∙ ap (squarings 10) c.exp_series.ensures)
