-- The losses of objective.rs, and the objectives on their arguments. Wherever they are used d = g = 2, and a square is a·a.
use Rattle.std.specs.Prelude.{◌≡◌, refl, Bool, true, false, cond, ◌&&◌, ◌||◌, List, ℕ, zero, suc, ◌<◌, eqb, Float, length, get_or}
use Rattle.std.proofs.Common.{⊎_elim, eq-or-lt_of_le, arith}
use Rattle.std.specs.Float.{nan, binary64}
use Rattle.std.specs.Float.Ieee.{of_bits, neg, eq, ne, le}
use Rattle.root.specs.Root.{root_of}
use Rattle.standins.specs.Num.{◌⊕◌, ◌⊖◌, ◌⊗◌, ◌⊘◌, nought, half, one, two, whole}
use Rattle.standins.specs.Series.{exp_of}
use Rattle.standins.specs.Power.{power20_of, power30_of, b20, b30}
use Rattle.groove.specs.declared.objective.Loss.{Loss}
use Rattle.groove.specs.declared.objective.Loss.TheVariants.{Groove, SwampGroove, Swamp, FixedCost}
use Rattle.groove.specs.declared.objective.Changes.{Changes}

abbrev pub square : Float → Float
square a = a ⊗ a

-- 0.01
abbrev pub hundredth : Float
hundredth = of_bits binary64 0x3f84_7ae1_47ae_147b

-- 0.1
abbrev pub tenth : Float
tenth = of_bits binary64 0x3fb9_9999_9999_999a

-- ---- the losses

-- -exp(-(x - t)^2 / (2·c^2)) + f·(x - t)^2
unfoldable pub groove_loss : Float → Float → Float → Float → Float
groove_loss x t c f = neg (exp_of (neg (square (x ⊖ t)) ⊘ (two ⊗ square c))) ⊕ f ⊗ square (x ⊖ t)

-- (2·x - l - u) / (u - l)
unfoldable pub scaled_of : Float → Float → Float → Float
scaled_of x l u = (two ⊗ x ⊖ l ⊖ u) ⊘ (u ⊖ l)

-- the p-th power, and b for it: p is 20 or 30, and any other number counts as 20
unfoldable pub power_of : Float → ℕ → Float
power_of a p = cond (eqb p 30) (power30_of a) (power20_of a)

unfoldable pub b_of : ℕ → Float
b_of p = cond (eqb p 30) b30 b20

-- 1 - exp(-(x/b)^p)
unfoldable pub bounds_penalty : Float → ℕ → Float
bounds_penalty x p = one ⊖ exp_of (neg (power_of (x ⊘ b_of p) p))

-- -f1·exp(-(x - g)^2 / (2·c^2)) + f2·(x - g)^2 + f3·penalty, with p = 20
unfoldable pub swamp_groove_loss : Float → Float → Float → Float → Float → Float → Float → Float → Float
swamp_groove_loss x g l u c f1 f2 f3 =
    neg f1 ⊗ exp_of (neg (square (x ⊖ g)) ⊘ (two ⊗ square c))
    ⊕ f2 ⊗ square (x ⊖ g)
    ⊕ f3 ⊗ bounds_penalty (scaled_of x l u) 20

-- (f1 + f2·x^2)·penalty - 1, of the scaled x
unfoldable pub swamp_loss : Float → Float → Float → Float → Float → ℕ → Float
swamp_loss x l u f1 f2 p = (f1 ⊕ f2 ⊗ square (scaled_of x l u)) ⊗ bounds_penalty (scaled_of x l u) p ⊖ one

-- a loss at x
unfoldable pub evaluate_of : Loss → Float → Float
evaluate_of (Groove t c f) x = groove_loss x t c f
evaluate_of (SwampGroove g l u c f1 f2 f3) x = swamp_groove_loss x g l u c f1 f2 f3
evaluate_of (Swamp l u f1 f2 p) x = swamp_loss x l u f1 f2 p
evaluate_of (FixedCost v) x = v

-- ---- which loss an objective has

-- tolerance <= 0.01
unfoldable pub narrow_of : Float → Bool
narrow_of bound = le bound hundredth

-- a tolerance that leaves room
unfoldable pub room_loss : Float → Loss
room_loss bound = SwampGroove nought (neg bound) bound (bound ⊗ two) one hundredth (whole 100)

-- a narrow tolerance: groove; otherwise swamp-groove
unfoldable pub position_loss : Float → Loss
position_loss bound = cond (narrow_of bound) (Groove nought tenth (whole 10)) (room_loss bound)

-- the same, but tolerance >= 3.14159260: swamp
unfoldable pub rotation_loss : Float → Loss
rotation_loss bound =
    cond (narrow_of bound) (Groove nought tenth (whole 10))
    (cond (le (of_bits binary64 0x4009_21fb_4d12_d84a) bound) (Swamp (neg bound) bound (whole 100) tenth 20)
    (room_loss bound))

-- 10 if a joint is a NaN; else swamp from 0.02 to 1.5, factors 60 and 0.0001
unfoldable pub pair_loss : Bool → Loss
pair_loss any_nan =
    cond any_nan (FixedCost (whole 10))
    (Swamp (of_bits binary64 0x3f94_7ae1_47ae_147b) (of_bits binary64 0x3ff8_0000_0000_0000) (whole 60) (of_bits binary64 0x3f1a_36e2_eb1c_432d) 30)

-- a groove at 1
unfoldable pub manipulability_loss : Loss
manipulability_loss = Groove one half tenth

-- limits exactly -999 and 999
unfoldable pub free_of : Float → Float → Bool
free_of l u = eq l (neg (whole 999)) && eq u (whole 999)

-- these cost -1; others are a swamp
unfoldable pub limits_loss : Float → Float → Loss
limits_loss l u = cond (free_of l u) (FixedCost (neg one)) (Swamp l u (whole 10) (whole 10) 20)

-- velocity, acceleration and jerk
unfoldable pub change_loss : Loss
change_loss = Groove nought tenth (whole 10)

-- a goal without tolerance
unfoldable pub strict_loss : Loss
strict_loss = Groove nought tenth (whole 10)

-- ---- the objectives on their arguments
unfoldable pub match_ee_posi_dof : Float → Float → Float
match_ee_posi_dof dist bound = evaluate_of (position_loss bound) dist

unfoldable pub match_ee_rota_dof : Float → Float → Float
match_ee_rota_dof angle bound = evaluate_of (rotation_loss bound) angle

unfoldable pub self_collision : Float → Bool → Float
self_collision dis any_nan = evaluate_of (pair_loss any_nan) dis

unfoldable pub maximize_manipulability : Float → Float
maximize_manipulability x = evaluate_of manipulability_loss x

unfoldable pub each_joint_limits : Float → Float → Float → Float
each_joint_limits x l u = evaluate_of (limits_loss l u) x

unfoldable pub minimize_velocity : Float → Float
minimize_velocity x = evaluate_of change_loss x

unfoldable pub minimize_acceleration : Float → Float
minimize_acceleration x = evaluate_of change_loss x

unfoldable pub minimize_jerk : Float → Float
minimize_jerk x = evaluate_of change_loss x

unfoldable pub match_ee_pos_goals : Float → Float
match_ee_pos_goals x = evaluate_of strict_loss x

unfoldable pub match_ee_quat_goals : Float → Float
match_ee_quat_goals x = evaluate_of strict_loss x

-- ---- the arguments of velocity, acceleration and jerk

-- joint i's change from one block to another, and the changes of that
unfoldable pub velocity_at : List Float → List Float → ℕ → Float
velocity_at x y i = get_or x i nan ⊖ get_or y i nan

unfoldable pub acceleration_at : List Float → List Float → List Float → ℕ → Float
acceleration_at x y z i = velocity_at x y i ⊖ velocity_at y z i

unfoldable pub jerk_at : List Float → List Float → List Float → List Float → ℕ → Float
jerk_at x y z w i = acceleration_at x y z i ⊖ acceleration_at y z w i

-- the sum of the first n squares, from 0
unfoldable pub squares_to : (ℕ → Float) → ℕ → Float
squares_to f zero = nought
squares_to f (suc n) = squares_to f n ⊕ square (f n)

-- the three changes: each the root of the sum over the joints
unfoldable pub velocity_of : List Float → List Float → Float
velocity_of x xopt = root_of (squares_to (velocity_at x xopt) (length x))

unfoldable pub acceleration_of : List Float → List Float → List Float → Float
acceleration_of x xopt prev = root_of (squares_to (acceleration_at x xopt prev) (length x))

unfoldable pub jerk_of : List Float → List Float → List Float → List Float → Float
jerk_of x xopt prev prev2 = root_of (squares_to (jerk_at x xopt prev prev2) (length x))

abbrev pub changes_of : List Float → List Float → List Float → List Float → Changes
changes_of x xopt prev prev2 = record { velocity = velocity_of x xopt; acceleration = acceleration_of x xopt prev; jerk = jerk_of x xopt prev prev2 }

-- the roots of three sums
abbrev pub roots_of : Float → Float → Float → Changes
roots_of v a j = record { velocity = root_of v; acceleration = root_of a; jerk = root_of j }

-- ---- a NaN among the joints

-- one of the first n is a NaN
unfoldable pub any_nan_to : List Float → ℕ → Bool
any_nan_to x zero = false
any_nan_to x (suc n) = any_nan_to x n || ne (get_or x n nan) (get_or x n nan)

unfoldable pub any_nan : List Float → Bool
any_nan x = any_nan_to x (length x)

-- a NaN that is met is one of them all
pub number-missing : (x : List Float) (i n : ℕ) → i < n → ne (get_or x i nan) (get_or x i nan) ≡ true → any_nan_to x n ≡ true
unfolding any_nan_to
number-missing x i zero h e = absurd (omega arith)
number-missing x i (suc n) h e =
    ⊎_elim
    (λ (q : suc i ≡ suc n). let s : i ≡ n = omega arith in or-true (any_nan_to x n) _ (rw (← s) e))
    (λ (l : suc i < suc n). rw (number-missing x i n (omega arith) e))
    (eq-or-lt_of_le h)
  where
    or-true : (a b : Bool) → b ≡ true → (a || b) ≡ true
    or-true true b q = refl
    or-true false b q = q
