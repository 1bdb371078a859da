-- `nearest_whole` meets its contract: each return is a law of what its tests leave.
use mathlib.Core.Path.{◌≡◌, sym, subst}
use lib.Dec.{T}
use lib.Ieee.{Float, binary64, fits, of_bits}
use Rattle.whole.specs.Whole.{whole_of, IsNearestWhole}
use Rattle.whole.proofs.Nearest.{is-nearest}
use Rattle.whole.proofs.Result.{over-test, under-test, minus-test, plus-test}
use Rattle.whole.proofs.nearest_whole.Goals as goal

-- the second clause follows from the first
nearest : (x : Float) → T (fits binary64 x) → {r : Float} → r ≡ whole_of x → IsNearestWhole x r
nearest x held {r} e = subst (λ (y : Float). IsNearestWhole x y) (sym e) (is-nearest x held)

pub returns-then-x : goal.returns-then-x
unfolding of_bits
returns-then-x c =
    let held : T (fits binary64 c.args.x) = subst T (sym c.well_formed.0.1) tt in
    let e = over-test c.args.x held c.if-x.true in
    record { same = e; nearest = nearest c.args.x held e }

pub returns-then-x-2 : goal.returns-then-x-2
unfolding of_bits
returns-then-x-2 c =
    let held : T (fits binary64 c.args.x) = subst T (sym c.well_formed.0.1) tt in
    let e = under-test c.args.x held c.if-x-2.true in
    record { same = e; nearest = nearest c.args.x held e }

pub returns-then-x-3 : goal.returns-then-x-3
unfolding of_bits
returns-then-x-3 c =
    let held : T (fits binary64 c.args.x) = subst T (sym c.well_formed.0.1) tt in
    let e = minus-test c.args.x c.if-x-2.false c.if-x-3.true in
    record { same = e; nearest = nearest c.args.x held e }

pub returns : goal.returns
unfolding of_bits
returns c =
    let held : T (fits binary64 c.args.x) = subst T (sym c.well_formed.0.1) tt in
    let e = plus-test c.args.x c.if-x.false c.if-x-3.false in
    record { same = e; nearest = nearest c.args.x held e }
