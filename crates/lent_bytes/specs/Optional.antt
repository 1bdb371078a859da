-- A list of floats that may be left out. Left out is one without a byte alone: a ragged list, and one longer than any that is taken, is of a wrong length.
use Rattle.std.specs.Prelude.{◌≡◌, refl, Bool, true, false, cond, List, ℕ, ◌*◌, ◌/◌, ◌%◌, ◌≤◌, ◌<◌, eqb, ltb, length, Option, Some, None, Result, Ok, Err}
use Rattle.std.proofs.Common.{ap, ⊎_elim, arith, eq-eqb, ne_eqb, lt-ltb, le-ltb, eqb-true}
use Rattle.lent_bytes.specs.Lent.{count_in, Misfit, count_under}
use Rattle.lent_bytes.specs.declared.optional.WrongLength as declared

-- left out, so many floats, or of a wrong length
abbrev pub Optional : Type 0
Optional = Result (Option ℕ) declared.WrongLength

abbrev pub Empty : Optional
Empty = Ok None

abbrev pub Floats : ℕ → Optional
Floats n = Ok (Some n)

abbrev pub WrongLength : Optional
WrongLength = Err (record {})

abbrev pub optional_if : Bool → Optional → Optional → Optional
optional_if true a b = a
optional_if false a b = b

-- what n bytes are, where at most cap floats are taken
unfoldable pub optional_of : ℕ → ℕ → Optional
optional_of cap n = optional_if (eqb n 0) Empty (optional_if (eqb (n % 8) 0) (optional_if (ltb cap (n / 8)) WrongLength (Floats (n / 8))) WrongLength)

abbrev pub optional_in : ℕ → List ℕ → Optional
optional_in cap b = optional_of cap (length b)

-- how many floats there are
abbrev pub count_of : Optional → ℕ
count_of (Ok None) = 0
count_of (Ok (Some n)) = n
count_of (Err e) = 0

-- ---- laws: left out is the list without a byte, and no other
pub left_out : (cap : ℕ) (b : List ℕ) → length b ≡ 0 → optional_in cap b ≡ Empty
unfolding optional_of
left_out cap b e = rw (eq-eqb (length b) 0 e)

pub only-left-out : (cap : ℕ) (b : List ℕ) → optional_in cap b ≡ Empty → length b ≡ 0
unfolding optional_of
only-left-out cap b e = none (eqb (length b) 0) (eqb (length b % 8) 0) (ltb cap (length b / 8)) refl e
  where
    none : (t u v : Bool) → eqb (length b) 0 ≡ t → optional_if t Empty (optional_if u (optional_if v WrongLength (Floats (length b / 8))) WrongLength) ≡ Empty → length b ≡ 0
    none true u v z e = eqb-true (length b) 0 z
    none false true true z e = let n : ◌≡◌ {A = ℕ} 0 1 = cc in omega arith
    none false true false z e = let n : ◌≡◌ {A = ℕ} 0 1 = cc in omega arith
    none false false v z e = let n : ◌≡◌ {A = ℕ} 0 1 = cc in omega arith

-- a ragged or overlong list is of a wrong length
pub wrong-length : (cap : ℕ) (b : List ℕ) → Misfit 8 cap (length b) → optional_in cap b ≡ WrongLength
unfolding optional_of
wrong-length cap b m =
    ⊎_elim
    (λ (h : length b % 8 ≡ 0 → ⊥). rw (ne_eqb (length b) 0 (λ e. h (ap (λ n. n % 8) e)), ne_eqb (length b % 8) 0 h))
    (λ (l : cap < length b / 8). rw (ne_eqb (length b) 0 (λ e. omega arith), lt-ltb cap (length b / 8) l) (either (eqb (length b % 8) 0)))
    m
  where
    either : (t : Bool) → optional_if t WrongLength WrongLength ≡ WrongLength
    either true = refl
    either false = refl

-- every other has n floats
pub whole-floats : (cap : ℕ) (b : List ℕ) (n : ℕ) → length b ≡ 8 * n → 1 ≤ n → n ≤ cap → optional_in cap b ≡ Floats n
unfolding optional_of
whole-floats cap b n e some fits =
    let d : length b / 8 ≡ n = omega arith in
    rw (ne_eqb (length b) 0 (λ z. omega arith), eq-eqb (length b % 8) 0 (omega arith), d, le-ltb cap n fits)

-- told by the count that is taken
pub counted-wrong : (cap n : ℕ) → (n ≡ 0 → ⊥) → count_in 8 cap n ≡ 0 → optional_of cap n ≡ WrongLength
unfolding optional_of count_in
counted-wrong cap n h e = rw (ne_eqb n 0 h) (either (eqb (n % 8) 0) (ltb cap (n / 8)) refl e)
  where
    either : (t u : Bool) → eqb (n % 8) 0 ≡ t → cond t (cond u 0 (n / 8)) 0 ≡ 0 → optional_if t (optional_if u WrongLength (Floats (n / 8))) WrongLength ≡ WrongLength
    either true true z e = refl
    either true false z e = absurd (h (omega (arith, eqb-true (n % 8) 0 z)))
    either false u z e = refl

pub counted-floats : (cap n : ℕ) → (count_in 8 cap n ≡ 0 → ⊥) → optional_of cap n ≡ Floats (count_in 8 cap n)
unfolding optional_of count_in
counted-floats cap n h = rw (ne_eqb n 0 (λ e. h (omega (arith, count_under 8 cap n)))) (either (eqb (n % 8) 0) (ltb cap (n / 8)) h)
  where
    either : (t u : Bool) → (cond t (cond u 0 (n / 8)) 0 ≡ 0 → ⊥) → optional_if t (optional_if u WrongLength (Floats (n / 8))) WrongLength ≡ Floats (cond t (cond u 0 (n / 8)) 0)
    either true true h = absurd (h refl)
    either true false h = refl
    either false u h = absurd (h refl)
