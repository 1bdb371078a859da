-- Raising a joint makes no NaN of a number and no number of a NaN.
use Rattle.std.specs.Prelude.{◌≡◌, refl, Bool, true, false, cond, ◌&&◌, List, ℕ, zero, suc, ◌+◌, ◌-◌, ◌*◌, ◌^◌, ◌≤◌, ◌<◌, T, ltb, negsuc, Float, length, get_or, set}
use Rattle.std.proofs.Common.{sym, ap, subst, ◌∙◌, true≢false, ⊎_elim, arith, length-set, get_or-set_same, get_or-set_other}
use Rattle.std.specs.Bool.{beq}
use Rattle.std.specs.Float.{nan, inf, fin, Format, binary64}
use Rattle.std.specs.Float.Ieee.{of_bits, prec, emax, low, up, down, odd, units, round, sum, add, ne, eq, is_nan}
use Rattle.std.specs.Float.Ieee.Compare.{differs_from_itself}
use Rattle.standins.specs.Num.{◌⊕◌}
use Rattle.sheet.specs.Chain.{below_or}
use Rattle.groove.specs.Loss.{any_nan_to, any_nan}
use Rattle.gradient.specs.Slopes.{step}
use Rattle.gradient.specs.Gradient.{raised_by}

-- ---- a rounded sum is a number
odd_number : (d : ℕ) (s : Bool) (q k l : ℕ) → is_nan (odd d s q k l) ≡ false
unfolding odd is_nan
odd_number d s zero k l = refl
odd_number d s (suc q) k l = refl

units_number : (f : Format) (s : Bool) (q k : ℕ) → is_nan (units f s q k) ≡ false
unfolding units is_nan
units_number f s q k = go (ltb (q * 2 ^ k) (2 ^ (low f + suc (emax f))))
  where
    go : (t : Bool) → is_nan (cond t (odd (suc (prec f)) s q k (low f)) (inf s)) ≡ false
    go true = odd_number (suc (prec f)) s q k (low f)
    go false = refl

round_number : (f : Format) (s : Bool) (num den : ℕ) → is_nan (round f s num den) ≡ false
unfolding round
round_number f s num den = units_number f s _ _

sum_number : (f : Format) (s : Bool) (a : ℕ) (t : Bool) (b c : ℕ) → is_nan (sum f s a t b c) ≡ false
unfolding sum
sum_number f s a t b c = go (beq s t) (ltb a b)
  where
    go : (p q : Bool) → is_nan (cond p (round f s (a + b) c) (cond q (round f t (b - a) c) (round f (s && ltb b a) (a - b) c))) ≡ false
    go true q = round_number f s (a + b) c
    go false true = round_number f t (b - a) c
    go false false = round_number f (s && ltb b a) (a - b) c

step_is : step ≡ fin false 0x35af_e535_795e9 (negsuc 72)
unfolding of_bits
step_is = refl

add-number : (v : Float) (t : Bool) (n k : ℕ) → is_nan (v ⊕ fin t n (negsuc k)) ≡ is_nan v
unfolding add is_nan
add-number nan t n k = refl
add-number (inf s) t n k = refl
add-number (fin s m e) t n k = sum_number binary64 s (m * up e * down (negsuc k)) t (n * up (negsuc k) * down e) (down e * down (negsuc k))

-- only a NaN differs from itself
ne-self : (v : Float) → ne v v ≡ is_nan v
unfolding ne eq is_nan
ne-self nan = refl
ne-self (inf true) = refl
ne-self (inf false) = refl
ne-self (fin s m e) = go (ne (fin s m e) (fin s m e)) refl
  where
    go : (t : Bool) → ne (fin s m e) (fin s m e) ≡ t → ne (fin s m e) (fin s m e) ≡ false
    go true q = absurd (true≢false (sym (ap is_nan (differs_from_itself (fin s m e) (subst T (sym q) tt)))))
    go false q = q

raised-number : (v : Float) → ne v v ≡ ne (v ⊕ step) (v ⊕ step)
raised-number v = ne-self v ∙ sym (add-number v false 0x35af_e535_795e9 72) ∙ ap (λ (h : Float). is_nan (v ⊕ h)) (sym step_is) ∙ sym (ne-self (v ⊕ step))

-- ---- of a block
numbers-same : (x y : List Float) (n : ℕ) → ((i : ℕ) → i < n → ne (get_or x i nan) (get_or x i nan) ≡ ne (get_or y i nan) (get_or y i nan)) → any_nan_to x n ≡ any_nan_to y n
unfolding any_nan_to
numbers-same x y zero same = refl
numbers-same x y (suc n) same =
    let e : any_nan_to x n ≡ any_nan_to y n = numbers-same x y n (λ i h. same i (omega arith)) in
    let l = same n (omega arith) in
    rw (e, l)

pub numbers-raised : (x : List Float) (j : ℕ) → j < length x → any_nan x ≡ any_nan (raised_by step x j)
unfolding any_nan raised_by
numbers-raised x j h =
    let v : Float = get_or x j nan ⊕ step in
    let y : List Float = set x j v in
    numbers-same x y (length x) (λ i l. ⊎_elim (λ (b : i < j). other i (λ e. omega arith)) (λ (b : j ≤ i). ⊎_elim (λ (c : j < i). other i (λ e. omega arith)) (λ (c : i ≤ j). let e : i ≡ j = omega arith in rw e own) (below_or j i)) (below_or i j))
    ∙ ap (any_nan_to y) (sym (length-set x j v))
  where
    own : ne (get_or x j nan) (get_or x j nan) ≡ ne (get_or (set x j (get_or x j nan ⊕ step)) j nan) (get_or (set x j (get_or x j nan ⊕ step)) j nan)
    own = raised-number (get_or x j nan) ∙ ap (λ (w : Float). ne w w) (sym (get_or-set_same x j (get_or x j nan ⊕ step) nan h))

    other : (i : ℕ) → (i ≡ j → ⊥) → ne (get_or x i nan) (get_or x i nan) ≡ ne (get_or (set x j (get_or x j nan ⊕ step)) i nan) (get_or (set x j (get_or x j nan ⊕ step)) i nan)
    other i e = ap (λ (w : Float). ne w w) (sym (get_or-set_other x j i (get_or x j nan ⊕ step) nan e))
