-- `put_slopes` meets its contract: turn after turn one slope more.
use mathlib.Core.Path.{◌≡◌}
use Rattle.lists.specs.Splice.{splice}
use Rattle.lists.specs.Listed.{listed}
use Rattle.gradient.specs.Slopes.{slope_between}
use Rattle.gradient.proofs.slopes.put_slopes.Given as goal

abbrev pub invariant-loop-i : goal.invariant-loop-i
invariant-loop-i l = l.f_hs ≡ splice l.initial.f_hs 0 (listed (slope_between l.f_0s l.initial.f_hs) l.i)
