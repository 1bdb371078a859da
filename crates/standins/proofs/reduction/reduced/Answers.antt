-- `reduced` meets its contract: its two tests are the one on the size.
use mathlib.Core.Path.{◌≡◌, refl, sym, ◌∙◌}
use mathlib.Core.Bool.{true, false, true≢false, false≢true}
use lib.Ieee.{Float, nan, inf, fin, lt, neg, of_bits}
use Rattle.standins.specs.Num.{abs_of}
use Rattle.standins.specs.Reduction.{unreduced, kept, turned-off}
use Rattle.standins.proofs.reduction.reduced.Goals as goal

over : (a : Float) → lt unreduced a ≡ true → lt unreduced (abs_of a) ≡ true
unfolding of_bits lt abs_of
over nan h = h
over (inf true) h = refl
over (inf false) h = refl
over (fin true m e) h = absurd (false≢true h)
over (fin false m e) h = h

under : (a : Float) → lt a (neg unreduced) ≡ true → lt unreduced (abs_of a) ≡ true
unfolding of_bits lt neg abs_of
under nan h = absurd (false≢true h)
under (inf s) h = refl
under (fin true m e) h = h
under (fin false m e) h = absurd (false≢true h)

within : (a : Float) → lt unreduced a ≡ false → lt a (neg unreduced) ≡ false → lt unreduced (abs_of a) ≡ false
unfolding of_bits lt neg abs_of
within nan h k = refl
within (inf true) h k = absurd (true≢false k)
within (inf false) h k = absurd (true≢false h)
within (fin true m e) h k = k
within (fin false m e) h k = h

pub returns-then-a : goal.returns-then-a
returns-then-a c = let a = c.args.a in c.turned.ensures ∙ sym (turned-off a (over a c.if-a.true))

pub returns-then-a-2 : goal.returns-then-a-2
returns-then-a-2 c = let a = c.args.a in c.turned-then-a-2.ensures ∙ sym (turned-off a (under a c.if-a-2.true))

pub returns : goal.returns
returns c = let a = c.args.a in sym (kept a (within a c.if-a.false c.if-a-2.false))
