-- `root::sqrt` meets its contract: the tests leave a number above zero, whose root `pattern` makes.
use mathlib.Core.Path.{◌≡◌, sym, subst}
use lib.Dec.{T}
use lib.Ieee.{Float, binary64, fits}
use Rattle.root.specs.Root.{root_of, IsRoot}
use Rattle.root.proofs.Special.{nan-root, no_nan, zero-root, negative-root, inf-root, positive-left}
use Rattle.root.proofs.Patterns.{pattern_lt}
use Rattle.root.proofs.Result.{positive-not_negative, pattern-pos, result-no-nan, result}
use Rattle.root.proofs.Closest.{is-root}
use Rattle.root.proofs.sqrt.Goals as goal

-- the second clause follows from the first
nearest : (x : Float) → T (fits binary64 x) → {r : Float} → r ≡ root_of x → IsRoot x r
nearest x held {r} e = subst (λ (y : Float). IsRoot x y) (sym e) (is-root x held)

pub returns-then-x : goal.returns-then-x
returns-then-x c =
    let held : T (fits binary64 c.args.x) = subst T (sym c.well_formed.0.1) tt in
    let e = nan-root c.args.x c.if-x.true in
    record { same = e; nearest = nearest c.args.x held e }

pub returns-then-x-2 : goal.returns-then-x-2
returns-then-x-2 c =
    let held : T (fits binary64 c.args.x) = subst T (sym c.well_formed.0.1) tt in
    let e = zero-root c.args.x c.if-x-2.true in
    record { same = e; nearest = nearest c.args.x held e }

pub returns-then-x-3 : goal.returns-then-x-3
returns-then-x-3 c =
    let held : T (fits binary64 c.args.x) = subst T (sym c.well_formed.0.1) tt in
    let e = negative-root c.args.x c.if-x-3.true in
    record { same = e; nearest = nearest c.args.x held e }

pub float_to_bits-b : goal.float_to_bits-b
float_to_bits-b c = no_nan c.args.x c.if-x.false

pub returns-then-b-eq-INFINITY : goal.returns-then-b-eq-INFINITY
returns-then-b-eq-INFINITY c =
    let held : T (fits binary64 c.args.x) = subst T (sym c.well_formed.0.1) tt in
    let e = inf-root c.args.x held c.if-b-eq-INFINITY.true in
    record { same = e; nearest = nearest c.args.x held e }

pub pattern-requires : goal.pattern-requires
pattern-requires c =
    let held : T (fits binary64 c.args.x) = subst T (sym c.well_formed.0.1) tt in
    let above = positive-left c.args.x c.if-x.false c.if-x-2.false c.if-x-3.false c.if-b-eq-INFINITY.false in
    (pattern-pos c.args.x held above, pattern_lt c.args.x held (positive-not_negative c.args.x above))

pub float_from_bits-result : goal.float_from_bits-result
float_from_bits-result c = let k = c.pattern.ensures in result-no-nan _ c.pattern.result k.0 k.1 k.2 k.3

pub returns : goal.returns
returns c =
    let held : T (fits binary64 c.args.x) = subst T (sym c.well_formed.0.1) tt in
    let above = positive-left c.args.x c.if-x.false c.if-x-2.false c.if-x-3.false c.if-b-eq-INFINITY.false in
    let k = c.pattern.ensures in
    let e = result c.args.x held above c.pattern.result k.0 k.1 k.2 k.3 in
    record { same = e; nearest = nearest c.args.x held e }
