use Rattle.std.proofs.Common.{rules, ◌≡◌, ◌≤◌, Bool, false, true, List, length, take, refl, add-one, arith, ◌∙◌, ap, take_all}
use Prim.Native.Nat.{ℕ, zero, suc}
use lib.Ieee.{Float, nan, inf, fin, eq, ne, is_nan}
use lib.Ieee.Compare.{differs_from_itself}
use Rattle.std.proofs.lemmas.Iterator.{YieldsList-from_slice}
use Rattle.std.proofs.lemmas.Iterator.Search.{any_from_yields_List}
use Rattle.std.specs.List.{list_any}
use Rattle.std.proofs.lemmas.List.Folds.{list_any_more}
use Rattle.groove.specs.Loss.{any_nan, any_nan_to}
use Rattle.groove.proofs.objective.any_nan.Goals as goal

-- a NaN is what differs from itself
missing : (v : Float) (differs : Bool) → ne v v ≡ differs → is_nan v ≡ differs
unfolding is_nan ne eq
missing v true q = ap is_nan (differs_from_itself v (rw q tt))
missing nan false q = absurd cc
missing (inf s) false q = refl
missing (fin s m e) false q = refl

missing-to : (x : List Float) (n : ℕ) → n ≤ length x → list_any is_nan (take n x) ≡ any_nan_to x n
unfolding any_nan_to
missing-to x zero h = refl
missing-to x (suc n) h = rw (← add-one, list_any_more is_nan x n nan (omega arith), missing-to x n (omega arith), missing _ _ refl)

pub returns : goal.returns
unfolding any_nan
returns c =
    let x = c.args.x.now in
    any_from_yields_List is_nan _ _ _ c.any.ensures.ran (YieldsList-from_slice x cc) (λ v b q k. search rules)
    ∙ rw (take_all (length x) x (omega arith)) at (missing-to x (length x) (omega arith))
