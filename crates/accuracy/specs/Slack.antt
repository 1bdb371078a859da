-- The arithmetic of the bound. a / d is the angle's size, 884279719003555 / 2 ^ 47 the turn, and u the number of units in 1. Of the quotient, the product and the result the
-- units are g, h and r; k is the whole number. Each lemma has few hypotheses and one product of numbers: `omega` stops at 38 digits.
use Rattle.std.specs.Prelude.{◌≡◌, ℕ, zero, suc, ◌+◌, ◌-◌, ◌*◌, ◌≤◌, ◌<◌}
use Rattle.std.proofs.Common.{sym, le_trans, le_of_eq, le_refl, le_of_mul-le-mul_right, mul-le-mul_right, mul-pos, mul_assoc, arith, lit≤}
use Rattle.whole.specs.Whole.{apart}
use Rattle.whole.specs.Halves.{Halves}
use Rattle.accuracy.specs.Error.{Near}

-- one rounding of n / c, where n is at most 2 ^ 53 times w
near-over : (g c n w : ℕ) → Near g c n → n ≤ 9007199254740992 * w → g * c ≤ n + w + c
near-over g c n w h a = go h.over
  where
    go : 9007199254740992 * (g * c) ≤ 9007199254740992 * n + (n + 4503599627370496 * c) → g * c ≤ n + w + c
    go o = omega (arith, a, o)

near-under : (g c n w : ℕ) → Near g c n → n ≤ 9007199254740992 * w → n ≤ g * c + w + c
near-under g c n w h a = go h.under
  where
    go : 9007199254740992 * n ≤ 9007199254740992 * (g * c) + (n + 4503599627370496 * c) → n ≤ g * c + w + c
    go o = omega (arith, a, o)

-- ---- the quotient
pub far-u : (a d u : ℕ) → a ≤ 1099511627776 * d → a * u ≤ 1099511627776 * (u * d)
far-u a d u h = go (mul-le-mul_right u h)
  where
    go : a * u ≤ 1099511627776 * d * u → a * u ≤ 1099511627776 * (u * d)
    go h = omega (arith, h)

-- it does not overflow
pub q-most : (a d u : ℕ) → a * u ≤ 1099511627776 * (u * d) → a * 140737488355328 * u ≤ 1099511627776 * u * (884279719003555 * 1 * d)
q-most a d u h = le_trans (le_of_eq (left a u)) (le_trans (step (a * u) (1099511627776 * (u * d)) h) (le_of_eq (right d u)))
  where
    left : (a u : ℕ) → a * 140737488355328 * u ≡ 140737488355328 * (a * u)
    left a u = omega arith

    step : (x w : ℕ) → x ≤ w → 140737488355328 * x ≤ 884279719003555 * w
    step x w h = omega arith

    right : (d u : ℕ) → 884279719003555 * (1099511627776 * (u * d)) ≡ 1099511627776 * u * (884279719003555 * 1 * d)
    right d u = omega arith

q-part : (a d u : ℕ) → a * u ≤ 1099511627776 * (u * d) → a * 140737488355328 * u ≤ 9007199254740992 * (17179869184 * (u * d))
q-part a d u h = omega arith

-- the half unit is below 1
pub wide : (d u : ℕ) → 884279719003555 ≤ u → 884279719003555 * d ≤ u * d
wide d u h = mul-le-mul_right d h

q-over : (a d u g : ℕ) → 884279719003555 * d ≤ u * d → g * (884279719003555 * 1 * d) ≤ a * 140737488355328 * u + 17179869184 * (u * d) + 884279719003555 * 1 * d
    → 884279719003555 * (g * d) ≤ 140737488355328 * (a * u) + 17179869185 * (u * d)
q-over a d u g w h = omega arith

q-under : (a d u g : ℕ) → 884279719003555 * d ≤ u * d → a * 140737488355328 * u ≤ g * (884279719003555 * 1 * d) + 17179869184 * (u * d) + 884279719003555 * 1 * d
    → 140737488355328 * (a * u) ≤ 884279719003555 * (g * d) + 17179869185 * (u * d)
q-under a d u g w h = omega arith

-- ---- the whole number: k turns are within half a turn of the angle, and a little
k-over : (a d u g k : ℕ) → 2 * (k * u) ≤ 2 * g + u → 884279719003555 * (g * d) ≤ 140737488355328 * (a * u) + 17179869185 * (u * d)
    → 1768559438007110 * (k * u * d) ≤ 281474976710656 * (a * u) + 884314078741925 * (u * d)
k-over a d u g k h q = go (mul-le-mul_right d h)
  where
    go : 2 * (k * u) * d ≤ (2 * g + u) * d → 1768559438007110 * (k * u * d) ≤ 281474976710656 * (a * u) + 884314078741925 * (u * d)
    go h = omega (arith, h, q)

k-under : (a d u g k : ℕ) → 2 * g ≤ 2 * (k * u) + u → 140737488355328 * (a * u) ≤ 884279719003555 * (g * d) + 17179869185 * (u * d)
    → 281474976710656 * (a * u) ≤ 1768559438007110 * (k * u * d) + 884314078741925 * (u * d)
k-under a d u g k h q = go (mul-le-mul_right d h)
  where
    go : 2 * g * d ≤ (2 * (k * u) + u) * d → 281474976710656 * (a * u) ≤ 1768559438007110 * (k * u * d) + 884314078741925 * (u * d)
    go h = omega (arith, h, q)

pub record Turns (a d u k : ℕ) : Type 0 where
  pub over : 1768559438007110 * (k * u * d) ≤ 281474976710656 * (a * u) + 884314078741925 * (u * d)
  pub under : 281474976710656 * (a * u) ≤ 1768559438007110 * (k * u * d) + 884314078741925 * (u * d)

pub turns : (a d u g k : ℕ) → a ≤ 1099511627776 * d → 884279719003555 ≤ u → Near g (884279719003555 * 1 * d) (a * 140737488355328 * u) → Halves g u k → Turns a d u k
turns a d u g k far U q h =
    let p = q-part a d u (far-u a d u far) in
    let c = 884279719003555 * 1 * d in
    let n = a * 140737488355328 * u in
    record {
      over = k-over a d u g k h.over (q-over a d u g (wide d u U) (near-over g c n (17179869184 * (u * d)) q p));
      under = k-under a d u g k h.under (q-under a d u g (wide d u U) (near-under g c n (17179869184 * (u * d)) q p));
    }

-- at least one turn, for an angle above 4.5
pub k-pos : (a d u k : ℕ) → 0 < u → 9 * d < 2 * a → Turns a d u k → 0 < k
k-pos a d u zero U h t = absurd (no (lift (mul-le-mul_right u h)) t.under)
  where
    lift : suc (9 * d) * u ≤ 2 * a * u → 9 * (u * d) + u ≤ 2 * (a * u)
    lift h = omega (arith, h)

    no : 9 * (u * d) + u ≤ 2 * (a * u) → 281474976710656 * (a * u) ≤ 1768559438007110 * (0 * u * d) + 884314078741925 * (u * d) → ⊥
    no h t = omega (arith, h, t, U)
k-pos a d u (suc k) U h t = omega arith

-- few turns
pub k-most : (a d u k : ℕ) → 0 < u → 0 < d → a ≤ 1099511627776 * d → Turns a d u k → k * 884279719003555 ≤ 309485009821345068724781056
k-most a d u k U D far t =
    le_of_mul-le-mul_right
    (le_trans (le_of_eq (left k u d))
    (le_trans (step (a * u) (k * u * d) (884314078741925 * (u * d)) (1099511627776 * (u * d)) t.over (far-u a d u far) (part (u * d) (1099511627776 * (u * d)) (le_refl (1099511627776 * (u * d)))))
    (le_trans (le_of_eq (sym (mul_assoc 140737488356328 1099511627776 (u * d)))) (mul-le-mul_right (u * d) (lit≤ tt)))))
    (mul-pos U D)
  where
    left : (k u d : ℕ) → k * 884279719003555 * (u * d) ≡ 884279719003555 * (k * u * d)
    left k u d = omega arith

    part : (v w : ℕ) → 1099511627776 * v ≤ w → 884314078741925 * v ≤ 1000 * w
    part v w h = omega arith

    step : (x y z w : ℕ) → 1768559438007110 * y ≤ 281474976710656 * x + z → x ≤ w → z ≤ 1000 * w → 884279719003555 * y ≤ 140737488356328 * w
    step x y z w a b c = omega arith

pub k-held : (k : ℕ) → k * 884279719003555 ≤ 309485009821345068724781056 → k ≤ 9007199254740992
k-held k h = omega arith

-- ---- the product
pub p-most : (k u : ℕ) → k * 884279719003555 ≤ 309485009821345068724781056 → k * 884279719003555 * u ≤ 2199023255552 * u * 140737488355328
p-most k u h = go (mul-le-mul_right u h)
  where
    go : k * 884279719003555 * u ≤ 309485009821345068724781056 * u → k * 884279719003555 * u ≤ 2199023255552 * u * 140737488355328
    go h = omega (arith, h)

p-part : (k u : ℕ) → k * 884279719003555 * u ≤ 2199023255552 * u * 140737488355328 → k * 884279719003555 * u ≤ 9007199254740992 * (34359738368 * u)
p-part k u h = omega arith

p-over : (d u k h : ℕ) → 884279719003555 ≤ u → h * 140737488355328 ≤ k * 884279719003555 * u + 34359738368 * u + 140737488355328
    → 140737488355328 * (h * d) ≤ 884279719003555 * (k * u * d) + 34359738369 * (u * d)
p-over d u k h U e = go (mul-le-mul_right d e) (mul-le-mul_right d U)
  where
    go : h * 140737488355328 * d ≤ (k * 884279719003555 * u + 34359738368 * u + 140737488355328) * d → 884279719003555 * d ≤ u * d
        → 140737488355328 * (h * d) ≤ 884279719003555 * (k * u * d) + 34359738369 * (u * d)
    go e w = omega (arith, e, w)

p-under : (d u k h : ℕ) → 884279719003555 ≤ u → k * 884279719003555 * u ≤ h * 140737488355328 + 34359738368 * u + 140737488355328
    → 884279719003555 * (k * u * d) ≤ 140737488355328 * (h * d) + 34359738369 * (u * d)
p-under d u k h U e = go (mul-le-mul_right d e) (mul-le-mul_right d U)
  where
    go : k * 884279719003555 * u * d ≤ (h * 140737488355328 + 34359738368 * u + 140737488355328) * d → 884279719003555 * d ≤ u * d
        → 884279719003555 * (k * u * d) ≤ 140737488355328 * (h * d) + 34359738369 * (u * d)
    go e w = omega (arith, e, w)

-- the exact difference: at most 3.14196
pub left-most : (a d u k h : ℕ) → 884279719003555 ≤ u → k * 884279719003555 ≤ 309485009821345068724781056 → Turns a d u k → Near h 140737488355328 (k * 884279719003555 * u)
    → 100000 * apart (a * u) (h * d) ≤ 314196 * (u * d)
left-most a d u k h U K t p =
    let b = p-part k u (p-most k u K) in
    let n = k * 884279719003555 * u in
    both (a * u) (h * d) (u * d)
    (over (a * u) (k * u * d) (h * d) (u * d) t.under (p-under d u k h U (near-under h 140737488355328 n (34359738368 * u) p b)))
    (under (a * u) (k * u * d) (h * d) (u * d) t.over (p-over d u k h U (near-over h 140737488355328 n (34359738368 * u) p b)))
  where
    over : (x y z v : ℕ) → 281474976710656 * x ≤ 1768559438007110 * y + 884314078741925 * v → 884279719003555 * y ≤ 140737488355328 * z + 34359738369 * v → 100000 * x ≤ 100000 * z + 314196 * v
    over x y z v a b = omega arith

    under : (x y z v : ℕ) → 1768559438007110 * y ≤ 281474976710656 * x + 884314078741925 * v → 140737488355328 * z ≤ 884279719003555 * y + 34359738369 * v → 100000 * z ≤ 100000 * x + 314196 * v
    under x y z v a b = omega arith

    both : (x z v : ℕ) → 100000 * x ≤ 100000 * z + 314196 * v → 100000 * z ≤ 100000 * x + 314196 * v → 100000 * (x - z + (z - x)) ≤ 314196 * v
    both x z v a b = omega arith

-- ---- the result
pub r-most : (z d u : ℕ) → 100000 * z ≤ 314196 * (u * d) → z * u ≤ 4 * u * (d * u)
r-most z d u h = go (mul-le-mul_right u h)
  where
    go : 100000 * z * u ≤ 314196 * (u * d) * u → z * u ≤ 4 * u * (d * u)
    go h = omega (arith, h)

pub r-bound : (z d u r : ℕ) → 0 < d → 884279719003555 ≤ u → 100000 * z ≤ 314196 * (u * d) → Near r (d * u) (z * u) → 100000 * r ≤ 314197 * u
r-bound z d u r D U h n = le_of_mul-le-mul_right (sum r z d u (step (r * d) z (4503599627370496 * d) (u * d) (cut n.over) (z-most z (u * d) h) (d-most d (u * d) (wide d u U))) h) D
  where
    U' : (u : ℕ) → 884279719003555 ≤ u → 0 < u
    U' u h = omega arith

    shape : 9007199254740992 * (r * (d * u)) ≤ 9007199254740992 * (z * u) + (z * u + 4503599627370496 * (d * u)) → 9007199254740992 * (r * d) * u ≤ (9007199254740993 * z + 4503599627370496 * d) * u
    shape h = omega (arith, h)

    cut : 9007199254740992 * (r * (d * u)) ≤ 9007199254740992 * (z * u) + (z * u + 4503599627370496 * (d * u)) → 9007199254740992 * (r * d) ≤ 9007199254740993 * z + 4503599627370496 * d
    cut h = le_of_mul-le-mul_right (shape h) (U' u U)

    z-most : (z v : ℕ) → 100000 * z ≤ 314196 * v → z ≤ 4 * v
    z-most z v h = omega arith

    d-most : (d v : ℕ) → 884279719003555 * d ≤ v → 4503599627370496 * d ≤ 6 * v
    d-most d v h = omega arith

    step : (rd z x v : ℕ) → 9007199254740992 * rd ≤ 9007199254740993 * z + x → z ≤ 4 * v → x ≤ 6 * v → 100000 * rd ≤ 100000 * z + v
    step rd z x v a b c = omega arith

    sum : (r z d u : ℕ) → 100000 * (r * d) ≤ 100000 * z + u * d → 100000 * z ≤ 314196 * (u * d) → 100000 * r * d ≤ 314197 * u * d
    sum r z d u a b = omega arith
