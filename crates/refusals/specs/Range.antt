-- Ranges, closed, and tests of every one of a run. A NaN is within no range.
use Rattle.std.specs.Prelude.{◌≡◌, Bool, true, false, ◌&&◌, List, ℤ, leb, Float, get_or, length, take, drop}
use Rattle.std.proofs.lemmas.List.{length-take-le, get_or-take, get_or-drop}
use Rattle.std.proofs.Math.Path.{refl}
use Rattle.std.proofs.Common.{sym, ap, ◌∙◌, eq-or-lt_of_le, le_trans, le_of_eq, lt_of_le_of_lt, lt_of_lt_of_le, mul_right_comm, mul-le-mul_right, mul-lt-mul_of_pos_right, lt_of_mul-lt-mul_right, lt-ltb, length-drop}
use Rattle.std.proofs.lemmas.Bool.{false≢true}
use Rattle.std.proofs.Math.Logic.{⊎_elim}
use Prim.Native.Nat.{ℕ, zero, suc, ◌+◌, ◌-◌, ◌*◌, ◌≤◌, ◌<◌}
use Rattle.std.proofs.Math.Numerals.{add-one}
use native.Mathlib.Omega.{arith}
use Rattle.std.specs.Float.{nan, inf, fin, binary64}
use Rattle.std.specs.Float.Ieee.{up, down, of_bits, neg, le}
use Rattle.std.specs.Float.Ieee.Fits.{down_pos}
use Rattle.lists.specs.Tests.{and-true}
use Rattle.whole.specs.Sizes.{says}
use Rattle.standins.specs.Num.{◌⊕◌, ◌⊗◌}

-- every number below n passes f
unfoldable pub every : (ℕ → Bool) → ℕ → Bool
every f zero = true
every f (suc n) = every f n && f n

-- n is within low..high
unfoldable pub between : ℕ → ℕ → ℕ → Bool
between low high n = leb low n && leb n high

-- v is within -b..b
unfoldable pub within : Float → Float → Bool
within b v = le (neg b) v && le v b

-- the float i places after at is within -b..b; past the list's end stands a NaN
unfoldable pub within_at : Float → List Float → ℕ → ℕ → Bool
within_at b xs at i = within b (get_or xs (at + i) nan)

-- the squares' sum, w first
unfoldable pub squares_of : Float → Float → Float → Float → Float
squares_of w i j k = w ⊗ w ⊕ i ⊗ i ⊕ j ⊗ j ⊕ k ⊗ k

-- s is within 0.999999999..1.000000001
unfoldable pub near_one : Float → Bool
near_one s = le (of_bits binary64 0x3fef_ffff_ff76_8fa1) s && le s (of_bits binary64 0x3ff0_0000_0044_b830)

-- the quaternion that starts at at, w first, has a squares' sum near 1
unfoldable pub unit_at : List Float → ℕ → Bool
unit_at xs at = near_one (squares_of (get_or xs at nan) (get_or xs (at + 1) nan) (get_or xs (at + 2) nan) (get_or xs (at + 3) nan))

-- ---- laws
module _ (f : ℕ → Bool) where
  pub every-none : every f 0 ≡ true
  unfolding every
  every-none = refl

  pub every_more : (n : ℕ) → every f (n + 1) ≡ (every f n && f n)
  unfolding every
  every_more n = rw add-one

  -- a turn of a loop that carries the answer
  pub every-turn : (n : ℕ) (ok t r : Bool) → ok ≡ every f n → t ≡ f n → r ≡ (ok && t) → r ≡ every f (n + 1)
  every-turn n ok t r e q h = h ∙ ap (λ (b : Bool). b && t) e ∙ ap (λ (b : Bool). every f n && b) q ∙ sym (every_more n)

  pub every-at : (n i : ℕ) → every f n ≡ true → i < n → f i ≡ true
  unfolding every
  every-at zero i e h = absurd (omega arith)
  every-at (suc n) i e h =
      let b = and-true (every f n) (f n) e in
      ⊎_elim
      (λ (q : suc i ≡ suc n). let s : i ≡ n = omega arith in rw s b.1)
      (λ (l : suc i < suc n). every-at n i b.0 (omega arith))
      (eq-or-lt_of_le h)

-- a loop that carries the answer
pub ruleset turns = (every-none, every_more)

pub every-from : (f : ℕ → Bool) (n : ℕ) → ((i : ℕ) → i < n → f i ≡ true) → every f n ≡ true
unfolding every
every-from f zero h = refl
every-from f (suc n) h = rw (every-from f n (λ i l. h i (omega (arith, l)))) (h n (omega arith))

pub every-ext : (f g : ℕ → Bool) (n : ℕ) → ((i : ℕ) → f i ≡ g i) → every f n ≡ every g n
unfolding every
every-ext f g zero same = refl
every-ext f g (suc n) same = ap (λ (b : Bool). b && f n) (every-ext f g n same) ∙ ap (λ (b : Bool). every g n && b) (same n)

pub every-same : (f g : ℕ → Bool) (n : ℕ) → ((i : ℕ) → i < n → f i ≡ g i) → every f n ≡ every g n
unfolding every
every-same f g zero same = refl
every-same f g (suc n) same =
    ap (λ (b : Bool). b && f n) (every-same f g n (λ i h. same i (omega (arith, h)))) ∙ ap (λ (b : Bool). every g n && b) (same n (omega arith))

-- the floats from at to end, as a list of their own
part-at : (xs : List Float) (at n i : ℕ) → i < n → get_or (take n (drop at xs)) i nan ≡ get_or xs (at + i) nan
part-at xs at n i h = get_or-take n (drop at xs) i nan h ∙ get_or-drop at xs i nan

pub part-within : (b : Float) (xs : List Float) (at end : ℕ) → end ≤ length xs
    → every (within_at b (take (end - at) (drop at xs)) 0) (length (take (end - at) (drop at xs))) ≡ every (within_at b xs at) (end - at)
unfolding within_at
part-within b xs at end h =
    let n = end - at in
    let long : length (take n (drop at xs)) ≡ n = length-take-le n (drop at xs) (omega (arith, length-drop at xs)) in
    ap (every (within_at b (take n (drop at xs)) 0)) long ∙ every-same _ _ n (λ i k. let z : 0 + i ≡ i = omega arith in ap (within b) (ap (λ (j : ℕ). get_or (take n (drop at xs)) j nan) z ∙ part-at xs at n i k))

pub part-unit : (xs : List Float) (at end : ℕ) → end ≡ at + 4 → unit_at (take (end - at) (drop at xs)) 0 ≡ unit_at xs at
unfolding unit_at
part-unit xs at end e =
    let n = end - at in
    let f = part-at xs at n in
    let z : at + 0 ≡ at = omega arith in
    rw (f 0 (omega arith), f 1 (omega arith), f 2 (omega arith), f 3 (omega arith), z) refl

-- a part of a list
pub ruleset parts = (part-within, part-unit)

and_assoc : (a b c : Bool) → ((a && b) && c) ≡ (a && (b && c))
and_assoc true b c = refl
and_assoc false b c = refl

-- a run and the one behind it
pub every-join : (f : ℕ → Bool) (m n : ℕ) → every f (m + n) ≡ (every f m && every (λ (i : ℕ). f (m + i)) n)
unfolding every
every-join f m zero = let z : m + 0 ≡ m = omega arith in rw z (and_right (every f m))
  where
    and_right : (b : Bool) → b ≡ (b && true)
    and_right true = refl
    and_right false = refl
every-join f m (suc n) =
    let e : m + suc n ≡ suc (m + n) = omega arith in
    ap (every f) e ∙ ap (λ (b : Bool). b && f (m + n)) (every-join f m n) ∙ and_assoc (every f m) (every (λ (i : ℕ). f (m + i)) n) (f (m + n))

every-all : (n : ℕ) → every (λ (i : ℕ). true) n ≡ true
unfolding every
every-all zero = refl
every-all (suc n) = ap (λ (b : Bool). b && true) (every-all n)

and-swap : (a b c d : Bool) → ((a && b) && (c && d)) ≡ ((a && c) && (b && d))
and-swap false b c d = refl
and-swap true false true d = refl
and-swap true false false d = refl
and-swap true true c d = refl

-- two tests of a run are one test of each
pub every-both : (f g : ℕ → Bool) (n : ℕ) → (every f n && every g n) ≡ every (λ (i : ℕ). f i && g i) n
unfolding every
every-both f g zero = refl
every-both f g (suc n) =
    and-swap (every f n) (f n) (every g n) (g n) ∙ ap (λ (b : Bool). b && (f n && g n)) (every-both f g n)

-- run by run is place by place
pub every-across : (f : ℕ → ℕ → Bool) (m n : ℕ) → every (λ (b : ℕ). every (f b) n) m ≡ every (λ (i : ℕ). every (λ (b : ℕ). f b i) m) n
unfolding every
every-across f zero n = sym (every-all n)
every-across f (suc m) n =
    ap (λ (b : Bool). b && every (f m) n) (every-across f m n) ∙ every-both (λ (i : ℕ). every (λ (b : ℕ). f b i) m) (f m) n

-- ---- laws: what is within a range is at most its bound in size, and within every wider range
-- v is finite, and at most m * 2 ^ e in size
abbrev pub AtMost : ℕ → ℤ → Float → Type 0
AtMost m e nan = ⊥
AtMost m e (inf s) = ⊥
AtMost m e (fin s p g) = p * up g * down e ≤ m * up e * down g

pub within-size : (m : ℕ) (e : ℤ) (v : Float) → within (fin false m e) v ≡ true → AtMost m e v
unfolding within neg le
within-size m e nan h = absurd (false≢true h)
within-size m e (inf true) h = absurd (false≢true h)
within-size m e (inf false) h = absurd (false≢true h)
within-size m e (fin false p g) h =
    let b = p * up g * down e in
    let c = m * up e * down g in
    says b c b c (λ (q : b ≡ c). q) (and-true (le (fin true m e) (fin false p g)) (le (fin false p g) (fin false m e)) h).1
within-size m e (fin true p g) h =
    let b = p * up g * down e in
    let c = m * up e * down g in
    says b c c b (λ (q : c ≡ b). sym q) (and-true (le (fin true m e) (fin true p g)) (le (fin true p g) (fin false m e)) h).0

below : (m n p : ℕ) (e f g : ℤ) → m * up e * down f < n * up f * down e → p * up g * down e ≤ m * up e * down g → p * up g * down f < n * up f * down g
below m n p e f g l h =
    lt_of_mul-lt-mul_right (down e)
    (lt_of_le_of_lt (le_trans (le_of_eq (mul_right_comm (p * up g) (down f) (down e))) (mul-le-mul_right (down f) h))
    (lt_of_le_of_lt (le_of_eq (mul_right_comm (m * up e) (down g) (down f)))
    (lt_of_lt_of_le (mul-lt-mul_of_pos_right l (down_pos g)) (le_of_eq (mul_right_comm (n * up f) (down e) (down g))))))

pub wider : (m n : ℕ) (e f : ℤ) (v : Float) → m * up e * down f < n * up f * down e → within (fin false m e) v ≡ true → within (fin false n f) v ≡ true
unfolding within neg le
wider m n e f v l h = go v (within-size m e v h)
  where
    go : (v : Float) → AtMost m e v → within (fin false n f) v ≡ true
    go nan k = absurd k
    go (inf s) k = absurd k
    go (fin false p g) k = let i = below m n p e f g l k in rw (lt-ltb _ _ i, lt-ltb 0 (n * up f * down g + p * up g * down f) (omega (arith, i)))
    go (fin true p g) k = let i = below m n p e f g l k in rw (lt-ltb _ _ i, lt-ltb 0 (p * up g * down f + n * up f * down g) (omega (arith, i)))
