-- Where the records of a stored list stand, how many of a call there are, how many of those differ, and what is wrong with a list. `lists` says how many lists a
-- record of each call has; it is the program's own.
use Rattle.std.specs.Prelude.{◌≡◌, refl, Bool, true, false, cond, List, eqb, ltb, length}
use Rattle.std.proofs.Common.{sym, ◌∙◌, ⊎_elim, eq-or-lt_of_le, eq-eqb, ne_eqb}
use Rattle.std.proofs.Math.Path.{ap}
use Prim.Native.Nat.{ℕ, zero, suc, ◌+◌, ◌-◌, ◌≤◌, ◌<◌}
use Rattle.std.proofs.Math.Nat.{zero-add, suc-add}
use Rattle.std.proofs.Math.Numerals.{add-one}
use native.Mathlib.Omega.{arith}
use borrow.Author.Tests.{lt-ltb}
use Rattle.lent_bytes.specs.SheetLists.{same-two, same-three}
use Rattle.refusals.specs.Lowest.{first_of, first_some, first-zero}
use Rattle.stored_answers.specs.Stored.{number_at, place_of}

-- where the record at a place ends
unfoldable pub end_by : (ℕ → ℕ) → List ℕ → ℕ → ℕ
end_by lists s at = place_of s at (lists (number_at s at))

-- how many records the list has, and where record i begins
abbrev pub records_in : List ℕ → ℕ
records_in s = number_at s 0

unfoldable pub record_by : (ℕ → ℕ) → List ℕ → ℕ → ℕ
record_by lists s zero = 2
record_by lists s (suc i) = end_by lists s (record_by lists s i)

-- 1 where the record at a place is one of call c; where it is one and does not agree
unfoldable pub is_case : List ℕ → ℕ → ℕ → ℕ
is_case s c at = cond (eqb (number_at s at) c) 1 0

unfoldable pub is_different : Bool → List ℕ → ℕ → ℕ → ℕ
is_different agrees s c at = cond (eqb (number_at s at) c) (cond agrees 0 1) 0

-- f 0 + f 1 + .., n of them
unfoldable pub sum_of : (ℕ → ℕ) → ℕ → ℕ
sum_of f zero = 0
sum_of f (suc n) = sum_of f n + f n

-- how many of the list's records are of call c, and how many of those differ; `agrees` says whether record i agrees
unfoldable pub cases_by : (ℕ → ℕ) → List ℕ → ℕ → ℕ
cases_by lists s c = sum_of (λ i. is_case s c (record_by lists s i)) (records_in s)

unfoldable pub differ_by : (ℕ → ℕ) → (ℕ → Bool) → List ℕ → ℕ → ℕ
differ_by lists agrees s c = sum_of (λ i. is_different (agrees i) s c (record_by lists s i)) (records_in s)

-- Calls that are made one after the other on a state: `after` says what a record's call makes of it, and `agrees` whether the record has what its call answers.
-- The state before record i, and whether that record agrees:
unfoldable pub state_by : {S : Type 0} → (S → List ℕ → ℕ → S) → S → (ℕ → ℕ) → List ℕ → ℕ → S
state_by after begun lists s zero = begun
state_by after begun lists s (suc i) = after (state_by after begun lists s i) s (record_by lists s i)

abbrev pub agrees_by : {S : Type 0} → (S → List ℕ → ℕ → Bool) → (S → List ℕ → ℕ → S) → S → (ℕ → ℕ) → List ℕ → ℕ → Bool
agrees_by agrees after begun lists s i = agrees (state_by after begun lists s i) s (record_by lists s i)

-- What is wrong with a list of calls up to `most`: 1, it is cut short; 2, a record is of no known call; 3, something stands behind the last record; 0, nothing.
-- The record at a place:
unfoldable pub damage_at : (ℕ → ℕ) → ℕ → List ℕ → ℕ → ℕ
damage_at lists most s at = cond (ltb (length s) (at + 4)) 1 (cond (ltb most (number_at s at)) 2 (cond (ltb (length s) (end_by lists s at)) 1 0))

-- the first i records: the first that is damaged counts
unfoldable pub damage_to : (ℕ → ℕ) → ℕ → List ℕ → ℕ → ℕ
damage_to lists most s zero = cond (ltb (length s) 2) 1 0
damage_to lists most s (suc i) = first_of (damage_to lists most s i) (damage_at lists most s (record_by lists s i))

unfoldable pub damage_by : (ℕ → ℕ) → ℕ → List ℕ → ℕ
damage_by lists most s = first_of (damage_to lists most s (records_in s)) (cond (eqb (record_by lists s (records_in s)) (length s)) 0 3)

-- ---- laws
pub record-next : (lists : ℕ → ℕ) (s : List ℕ) (i : ℕ) → record_by lists s (i + 1) ≡ end_by lists s (record_by lists s i)
unfolding record_by
record-next lists s i = rw add-one

pub state-next : {S : Type 0} (after : S → List ℕ → ℕ → S) (begun : S) (lists : ℕ → ℕ) (s : List ℕ) (i : ℕ)
    → state_by after begun lists s (i + 1) ≡ after (state_by after begun lists s i) s (record_by lists s i)
unfolding state_by
state-next after begun lists s i = rw add-one

module _ (s : List ℕ) (c at : ℕ) where
  pub case-none : (number_at s at ≡ c → ⊥) → is_case s c at ≡ 0
  unfolding is_case
  case-none h = rw (ne_eqb (number_at s at) c h)

  pub case-one : number_at s at ≡ c → is_case s c at ≡ 1
  unfolding is_case
  case-one e = rw (eq-eqb (number_at s at) c e)

  pub different-none : (t : Bool) → (number_at s at ≡ c → ⊥) → is_different t s c at ≡ 0
  unfolding is_different
  different-none t h = rw (ne_eqb (number_at s at) c h)

  pub different-agrees : (t : Bool) → number_at s at ≡ c → t ≡ true → is_different t s c at ≡ 0
  unfolding is_different
  different-agrees t e a = rw (eq-eqb (number_at s at) c e, a)

  pub different-one : (t : Bool) → number_at s at ≡ c → t ≡ false → is_different t s c at ≡ 1
  unfolding is_different
  different-one t e a = rw (eq-eqb (number_at s at) c e, a)

pub sum_more : (f : ℕ → ℕ) (n : ℕ) → sum_of f (n + 1) ≡ sum_of f n + f n
unfolding sum_of
sum_more f n = rw add-one

-- a sum of 0 has only zeros
sum-none : (f : ℕ → ℕ) (n : ℕ) → sum_of f n ≡ 0 → (i : ℕ) → i < n → f i ≡ 0
unfolding sum_of
sum-none f zero e i h = absurd (omega arith)
sum-none f (suc n) e i h =
    ⊎_elim
    (λ (q : i ≡ n). rw q (omega arith))
    (λ (l : i < n). sum-none f n (omega arith) i l)
    (eq-or-lt_of_le (omega arith))

agreed : (t : Bool) → ◌≡◌ {A = ℕ} (cond t 0 1) 0 → t ≡ true
agreed true e = refl
agreed false e = absurd (omega arith)

-- Where no record of the first n calls differs, every record of these calls agrees.
pub none_differ : (lists : ℕ → ℕ) (agrees : ℕ → Bool) (s : List ℕ) (n : ℕ) → sum_of (differ_by lists agrees s) n ≡ 0
    → (i : ℕ) → i < records_in s → number_at s (record_by lists s i) < n → agrees i ≡ true
unfolding differ_by is_different
none_differ lists agrees s n e i h l =
    let c = number_at s (record_by lists s i) in
    let d = sum-none (differ_by lists agrees s) n e c l in
    let z = sum-none (λ k. is_different (agrees k) s c (record_by lists s k)) (records_in s) d i h in
    agreed (agrees i) (rw (eq-eqb c c refl) at z)

module _ (lists : ℕ → ℕ) (most : ℕ) (s : List ℕ) where
  pub damage-more : (i : ℕ) → damage_to lists most s (i + 1) ≡ first_of (damage_to lists most s i) (damage_at lists most s (record_by lists s i))
  unfolding damage_to
  damage-more i = rw add-one

  -- the first damage stays
  stays : (i k : ℕ) → (damage_to lists most s i ≡ 0 → ⊥) → damage_to lists most s (k + i) ≡ damage_to lists most s i
  unfolding damage_to
  stays i zero h = rw zero-add
  stays i (suc k) h =
      let e = stays i k h in
      rw suc-add (first_some (damage_to lists most s (k + i)) (damage_at lists most s (record_by lists s (k + i))) (λ z. h (sym e ∙ z)) ∙ e)

  pub damage-found : (i : ℕ) → i ≤ records_in s → (damage_to lists most s i ≡ 0 → ⊥) → damage_by lists most s ≡ damage_to lists most s i
  unfolding damage_by
  damage-found i h d =
      let k = records_in s - i in
      let q : k + i ≡ records_in s = omega arith in
      let e = ap (damage_to lists most s) (sym q) ∙ stays i k d in
      first_some _ _ (λ z. d (sym e ∙ z)) ∙ e

  -- a list record by record: where i of them are whole, the next one decides
  pub damage-next : (i at : ℕ) {d : ℕ} → at ≡ record_by lists s i → damage_to lists most s i ≡ 0 → d ≡ damage_at lists most s at → damage_to lists most s (i + 1) ≡ d
  damage-next i at e z h = damage-more i ∙ first-zero _ _ z ∙ ap (damage_at lists most s) (sym e) ∙ sym h

  pub damage-short : length s < 2 → 1 ≡ damage_by lists most s
  unfolding damage_to
  damage-short h =
      let z : damage_to lists most s 0 ≡ 1 = rw (lt-ltb (length s) 2 h) in
      sym (damage-found 0 (omega arith) (λ e. omega (arith, z, e)) ∙ z)

  pub damage-first : (i : ℕ) {d : ℕ} → i < records_in s → damage_to lists most s (i + 1) ≡ d → (d ≡ 0 → ⊥) → d ≡ damage_by lists most s
  damage-first i h e n = sym (damage-found (i + 1) (omega arith) (λ z. n (sym e ∙ z)) ∙ e)

  module _ (i at : ℕ) (q : i ≡ records_in s) (e : at ≡ record_by lists s i) (z : damage_to lists most s i ≡ 0) where
    pub damage-behind : (at ≡ length s → ⊥) → 3 ≡ damage_by lists most s
    unfolding damage_by
    damage-behind h = sym (first-zero _ _ (ap (damage_to lists most s) (sym q) ∙ z) ∙ rw (ne_eqb (record_by lists s (records_in s)) (length s) (λ p. h (e ∙ ap (record_by lists s) q ∙ p))))

    pub damage-none : at ≡ length s → 0 ≡ damage_by lists most s
    unfolding damage_by
    damage-none h = sym (first-zero _ _ (ap (damage_to lists most s) (sym q) ∙ z) ∙ rw (eq-eqb (record_by lists s (records_in s)) (length s) (sym (e ∙ ap (record_by lists s) q) ∙ h)))

-- a tally record by record: what one record adds
module _ (lists : ℕ → ℕ) (s : List ℕ) (i at : ℕ) (e : at ≡ record_by lists s i) where
  pub place-next : {end : ℕ} → end ≡ end_by lists s at → end ≡ record_by lists s (i + 1)
  place-next h = h ∙ ap (end_by lists s) e ∙ sym (record-next lists s i)

  pub cases-next : (c : ℕ) {n m : ℕ} → n ≡ sum_of (λ k. is_case s c (record_by lists s k)) i → m ≡ n + is_case s c at → m ≡ sum_of (λ k. is_case s c (record_by lists s k)) (i + 1)
  cases-next c p h = h ∙ same-two (λ n at. n + is_case s c at) p e ∙ sym (sum_more (λ k. is_case s c (record_by lists s k)) i)

  module _ {S : Type 0} (agrees : S → List ℕ → ℕ → Bool) (after : S → List ℕ → ℕ → S) (begun : S) {state : S} (q : state ≡ state_by after begun lists s i) where
    pub after-next : {next : S} → next ≡ after state s at → next ≡ state_by after begun lists s (i + 1)
    after-next h = h ∙ same-two (λ state at. after state s at) q e ∙ sym (state-next after begun lists s i)

    pub differ-next : (c : ℕ) {n m : ℕ} → n ≡ sum_of (λ k. is_different (agrees_by agrees after begun lists s k) s c (record_by lists s k)) i → m ≡ n + is_different (agrees state s at) s c at
        → m ≡ sum_of (λ k. is_different (agrees_by agrees after begun lists s k) s c (record_by lists s k)) (i + 1)
    differ-next c p h =
        h ∙ same-three (λ n state at. n + is_different (agrees state s at) s c at) p q e
        ∙ sym (sum_more (λ k. is_different (agrees_by agrees after begun lists s k) s c (record_by lists s k)) i)
