-- `float_of` meets its contract: the test tells a NaN's pattern.
use mathlib.Core.Path.{sym, ◌∙◌, subst}
use mathlib.Core.Bool.{Bool, not}
use borrow.Author.Tests.{lt-ltb, le-ltb}
use lib.Dec.{T}
use lib.Ieee.{binary64}
use lib.Ieee.Bits.{nan_bits_above}
use Rattle.standins.specs.Num.{nought-over-nought}
use Rattle.lent_bytes.specs.Bytes.{nan_pattern}
use Rattle.lent_bytes.proofs.element.float_of.Goals as goal

pub returns-then-n-gt9218868437227405312 : goal.returns-then-n-gt9218868437227405312
returns-then-n-gt9218868437227405312 c = let n = c.args.n in nought-over-nought ∙ sym (nan_pattern n (nan_bits_above binary64 n ∙ lt-ltb _ _ c.if-n-gt9218868437227405312.true))

pub float_from_bits-result : goal.float_from_bits-result
float_from_bits-result c = subst (λ (b : Bool). T (not b)) (sym (nan_bits_above binary64 c.args.n ∙ le-ltb _ _ c.if-n-gt9218868437227405312.false)) tt
