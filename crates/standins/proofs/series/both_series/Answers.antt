use mathlib.Core.Path.{◌≡◌, refl}
use Prim.Native.Nat.{◌-◌}
use native.Mathlib.Omega.{arith}
use Rattle.standins.specs.Series.{term_of, series_of, sine_divisor, cosine_divisor, term-turn, down-done}
use Rattle.standins.proofs.series.both_series.Goals as goal

pub loop-n-init : goal.loop-n-init
unfolding series_of
loop-n-init c = (refl, refl)

pub loop-n-preserved : goal.loop-n-preserved
unfolding sine_divisor cosine_divisor
loop-n-preserved c =
    let l = c.loop-n in (
      term-turn sine_divisor _ (l.n - 1) l.s _ _ (omega arith) c.divisor.ensures l.invariant.0,
      term-turn cosine_divisor _ (l.n - 1) l.c _ _ (omega arith) c.divisor-in-loop-n.ensures l.invariant.1,
    )

pub returns : goal.returns
returns c =
    let l = c.loop-n in
    let s : l.s ≡ series_of sine_divisor _ = down-done (term_of sine_divisor _) (l.n - 1) _ _ (omega arith) l.invariant.0 in
    let k : l.c ≡ series_of cosine_divisor _ = down-done (term_of cosine_divisor _) (l.n - 1) _ _ (omega arith) l.invariant.1 in
    rw (s, k, c.reduced-angle.ensures)
