-- Lists that are lent as little-endian bytes, and u16s and floats as the bytes that go out.
use Rattle.std.specs.Prelude.{◌≡◌, Bool, false, true, cond, not, ◌⊎◌, ℕ, zero, suc, ◌+◌, ◌*◌, ◌/◌, ◌%◌, ◌≤◌, ◌<◌, T, ltb, eqb, get_or, set, take, Float}
use Rattle.std.proofs.Math.Path.{refl, sym, ap}
use Rattle.std.proofs.Common.{◌∙◌, subst, ⊎_elim, mul-zero, mul-suc, add-one, arith, ltb-false, ne_eqb, lt-ltb, le-ltb, take-suc, length-take-le, drop, get_or-drop, get_or-take, drop-drop, suc-mul, take_all}
use mathlib.Core.List.{List, [], ◌∷◌, ◌++◌, append-nil, append_assoc}
use Rattle.std.proofs.Math.Nat.{add_comm}
use Rattle.std.proofs.Math.ListN.{length, length-append}
use Rattle.std.proofs.lemmas.List.{take_more_set}
use Rattle.std.proofs.Math.Seq.{take_at, take-length}
use Rattle.std.specs.Simd.{first_chunks}
use Rattle.std.specs.Float.{nan, inf, fin, binary64}
use Rattle.std.specs.Float.Ieee.{of_bits, to_bits, is_nan, ne, eq}
use Rattle.lists.specs.Splice.{splice, splice-nil, splice-splice, splice-sets, length-splice, take-splice-front}
use Rattle.lists.specs.Runs.{runs, runs_none, runs-ext, runs-more}
use Rattle.lists.specs.Listed.{listed, length-listed}
use Rattle.lent_bytes.specs.Bytes.{pair_at, word_at, float_at}

-- How many elements of w bytes a list of n bytes holds. A ragged list, and one longer than any that is taken (cap), count as empty:
-- of a list that must be there either is a wrong length, and an empty list is refused with the same number.
unfoldable pub count_in : ℕ → ℕ → ℕ → ℕ
count_in w cap n = cond (eqb (n % w) 0) (cond (ltb cap (n / w)) 0 (n / w)) 0

-- every whole element of w bytes that n bytes are, and none of a ragged list
unfoldable pub whole_in : ℕ → ℕ → ℕ
whole_in w n = cond (eqb (n % w) 0) (n / w) 0

-- n bytes are no whole count of elements of w bytes, or more than cap of them
abbrev pub Misfit : ℕ → ℕ → ℕ → Type 0
Misfit w cap n = (n % w ≡ 0 → ⊥) ⊎ (cap < n / w)

-- number i of a byte list
abbrev pub number_at : List ℕ → ℕ → ℕ
number_at b i = pair_at b (2 * i)

-- the u16s and the floats of a byte list
unfoldable pub numbers_in : ℕ → List ℕ → List ℕ
numbers_in cap b = listed (number_at b) (count_in 2 cap (length b))

unfoldable pub floats_in : ℕ → List ℕ → List Float
floats_in cap b = listed (float_at b) (count_in 8 cap (length b))

-- the same of any element: f reads it off its w bytes
abbrev pub element_at : {A : Type 0} → (List ℕ → A) → ℕ → List ℕ → ℕ → A
element_at f w b i = f (take w (drop (i * w) b))

unfoldable pub elements_in : {A : Type 0} → (List ℕ → A) → ℕ → ℕ → List ℕ → List A
elements_in f w cap b = listed (element_at f w b) (count_in w cap (length b))

-- zs are the first n of ys
pub record Front {A : Type 0} (zs ys : List A) (n : ℕ) : Type 0 where
  pub within : n ≤ length ys
  pub sized : n ≡ length (take n ys)
  pub held : take n ys ≡ zs

-- the room in floats of an output of n bytes: a ragged one has none
unfoldable pub room_in : ℕ → ℕ
room_in n = cond (eqb (n % 8) 0) (n / 8) 0

-- the same in u16s
unfoldable pub number_room_in : ℕ → ℕ
number_room_in n = cond (eqb (n % 2) 0) (n / 2) 0

-- two, four and eight bytes of a number, the lowest first
abbrev pub pair_bytes : ℕ → List ℕ
pair_bytes n = n % 256 ∷ n / 256 % 256 ∷ []

abbrev pub half_bytes : ℕ → List ℕ
half_bytes n = n % 256 ∷ n / 256 % 256 ∷ n / 65536 % 256 ∷ n / 16777216 % 256 ∷ []

abbrev pub word_bytes : ℕ → List ℕ
word_bytes n = half_bytes n ++ half_bytes (n / 4294967296)

-- the bytes of a list's elements, one element behind the other
unfoldable pub bytes_of_each : {A : Type 0} → (A → List ℕ) → List A → List ℕ
bytes_of_each f [] = []
bytes_of_each f (x ∷ xs) = f x ++ bytes_of_each f xs

-- a list of floats as bytes, eight each; every NaN has one pattern
unfoldable pub bytes_of : List Float → List ℕ
bytes_of xs = bytes_of_each (λ x. word_bytes (to_bits binary64 x)) xs

-- a list of u16s as bytes, two each
unfoldable pub bytes_of_numbers : List ℕ → List ℕ
bytes_of_numbers ns = bytes_of_each pair_bytes ns

-- ---- laws
count_most : (t u : Bool) (cap n : ℕ) → u ≡ ltb cap n → cond t (cond u 0 n) 0 ≤ cap
count_most false u cap n e = omega arith
count_most true true cap n e = omega arith
count_most true false cap n e = ltb-false cap n (sym e)

pub count-within : (w cap n : ℕ) → count_in w cap n ≤ cap
unfolding count_in
count-within w cap n = count_most (eqb (n % w) 0) (ltb cap (n / w)) cap (n / w) refl

count_less : (t u : Bool) (n : ℕ) → cond t (cond u 0 n) 0 ≤ n
count_less false u n = omega arith
count_less true true n = omega arith
count_less true false n = omega arith

pub count_under : (w cap n : ℕ) → count_in w cap n ≤ n / w
unfolding count_in
count_under w cap n = count_less (eqb (n % w) 0) (ltb cap (n / w)) (n / w)

pub whole-under : (w n : ℕ) → whole_in w n ≤ n / w
unfolding whole_in
whole-under w n = count_less (eqb (n % w) 0) false (n / w)

pub count-whole : (w cap n : ℕ) → cond (ltb cap (whole_in w n)) 0 (whole_in w n) ≡ count_in w cap n
unfolding count_in whole_in
count-whole w cap n = either (eqb (n % w) 0)
  where
    none : (u : Bool) → ◌≡◌ {A = ℕ} (cond u 0 0) 0
    none true = refl
    none false = refl

    either : (t : Bool) → cond (ltb cap (cond t (n / w) 0)) 0 (cond t (n / w) 0) ≡ cond t (cond (ltb cap (n / w)) 0 (n / w)) 0
    either true = refl
    either false = none (ltb cap 0)

-- a misfit counts as empty
pub none-counted : (w cap n : ℕ) → Misfit w cap n → count_in w cap n ≡ 0
unfolding count_in
none-counted w cap n m =
    ⊎_elim (λ (h : n % w ≡ 0 → ⊥). rw (ne_eqb (n % w) 0 h)) (λ (l : cap < n / w). rw (lt-ltb cap (n / w) l) (either (eqb (n % w) 0))) m
  where
    either : (b : Bool) → ◌≡◌ {A = ℕ} (cond b 0 0) 0
    either true = refl
    either false = refl

room_most : (t : Bool) (n : ℕ) → 8 * cond t (n / 8) 0 ≤ n
room_most false n = omega arith
room_most true n = omega arith

pub room_within : (n : ℕ) → 8 * room_in n ≤ n
unfolding room_in
room_within n = room_most (eqb (n % 8) 0) n

number-room-most : (t : Bool) (n : ℕ) → 2 * cond t (n / 2) 0 ≤ n
number-room-most false n = omega arith
number-room-most true n = omega arith

pub number-room-within : (n : ℕ) → 2 * number_room_in n ≤ n
unfolding number_room_in
number-room-within n = number-room-most (eqb (n % 2) 0) n

-- k whole elements of w bytes
whole : (w k : ℕ) → (w * k) % w ≡ 0 → (w * k) / w ≡ k → cond (eqb ((w * k) % w) 0) ((w * k) / w) 0 ≡ k
whole w k none all = rw (none, all)

pub room_whole : (k : ℕ) → room_in (8 * k) ≡ k
unfolding room_in
room_whole k = whole 8 k (omega arith) (omega arith)

pub number-room-whole : (k : ℕ) → number_room_in (2 * k) ≡ k
unfolding number_room_in
number-room-whole k = whole 2 k (omega arith) (omega arith)

-- the first n of a list that was made by writing them at its front
pub front : {A : Type 0} (xs ys zs : List A) (n : ℕ) → ys ≡ splice xs 0 zs → length zs ≡ n → take n ys ≡ zs
front xs ys zs n e l = ap (take n) (e ∙ ap (splice xs 0) (sym (append-nil zs))) ∙ take-splice-front xs zs [] n l

pub front_of : {A : Type 0} (xs ys zs : List A) (n : ℕ) → ys ≡ splice xs 0 zs → length zs ≡ n → n ≤ length xs → Front zs ys n
front_of xs ys zs n e l h =
    let k : length ys ≡ length xs = ap length e ∙ length-splice xs 0 zs (omega arith) in
    record { within = omega arith; sized = sym (length-take-le n ys (omega arith)); held = front xs ys zs n e l }

pub numbers-length : (cap : ℕ) (b : List ℕ) → length (numbers_in cap b) ≡ count_in 2 cap (length b)
unfolding numbers_in
numbers-length cap b = length-listed (number_at b) (count_in 2 cap (length b))

-- the two instances: what an element's bytes are read as is what stands at its place
listed-same : {A : Type 0} (f g : ℕ → A) (n : ℕ) → ((i : ℕ) → i < n → f i ≡ g i) → listed f n ≡ listed g n
unfolding listed
listed-same {A = A} f g n h = runs-ext (λ i. f i ∷ []) (λ i. g i ∷ []) 0 n (λ i l. ap (λ (a : A). a ∷ []) (h (0 + i) (omega arith)))

byte-of : (w k j m : ℕ) (b : List ℕ) → j < w → k + j ≡ m → get_or (take w (drop k b)) j 0 ≡ get_or b m 0
byte-of w k j m b h e = get_or-take w (drop k b) j 0 h ∙ get_or-drop k b j 0 ∙ ap (λ (i : ℕ). get_or b i 0) e

pair-of : (b : List ℕ) (i : ℕ) → pair_at (take 2 (drop (i * 2) b)) 0 ≡ pair_at b (2 * i)
pair-of b i = rw (byte-of 2 (i * 2) 0 (2 * i) b (omega arith) (omega arith), byte-of 2 (i * 2) 1 (2 * i + 1) b (omega arith) (omega arith))

word-of : (b : List ℕ) (i : ℕ) → word_at (take 8 (drop (i * 8) b)) 0 ≡ word_at b (8 * i)
word-of b i =
    let at : (j m : ℕ) → j < 8 → i * 8 + j ≡ m → get_or (take 8 (drop (i * 8) b)) j 0 ≡ get_or b m 0 = λ j m. byte-of 8 (i * 8) j m b in
    rw (
      at 0 (8 * i) (omega arith) (omega arith),
      at 1 (8 * i + 1) (omega arith) (omega arith),
      at 2 (8 * i + 2) (omega arith) (omega arith),
      at 3 (8 * i + 2 + 1) (omega arith) (omega arith),
      at 4 (8 * i + 4) (omega arith) (omega arith),
      at 5 (8 * i + 4 + 1) (omega arith) (omega arith),
      at 6 (8 * i + 4 + 2) (omega arith) (omega arith),
      at 7 (8 * i + 4 + 2 + 1) (omega arith) (omega arith),
    )

pub float-of : (b : List ℕ) (i : ℕ) → i < length b / 8 → of_bits binary64 (word_at (take 8 (drop (i * 8) b)) 0) ≡ float_at b i
unfolding float_at
float-of b i h = rw (le-ltb (length b) (8 * i + 8) (omega arith)) (ap (of_bits binary64) (word-of b i))

pub elements-numbers : (cap : ℕ) (b : List ℕ) → elements_in (λ (x : List ℕ). pair_at x 0) 2 cap b ≡ numbers_in cap b
unfolding elements_in numbers_in
elements-numbers cap b = listed-same _ _ _ (λ i h. pair-of b i)

pub elements-floats : (cap : ℕ) (b : List ℕ) → elements_in (λ (x : List ℕ). of_bits binary64 (word_at x 0)) 8 cap b ≡ floats_in cap b
unfolding elements_in floats_in
elements-floats cap b = listed-same _ _ _ (λ i h. float-of b i (omega (arith, count_under 8 cap (length b))))

-- chunk i of a list cut into chunks of w
get_or-chunks : (w k i : ℕ) (b d : List ℕ) → i < k → get_or (first_chunks w k b) i d ≡ take w (drop (i * w) b)
get_or-chunks w zero i b d h = absurd (omega arith)
get_or-chunks w (suc k) zero b d h = let z : 0 ≡ 0 * w = omega arith in ap (λ n. take w (drop n b)) z
get_or-chunks w (suc k) (suc i) b d h =
    get_or-chunks w k i (drop w b) d (omega arith) ∙ ap (take w) (drop-drop (i * w) w b ∙ ap (λ n. drop n b) (omega (arith, suc-mul i w)))

pub chunk-read : (w k i : ℕ) (b d c : List ℕ) (cs : List (List ℕ)) → cs ≡ first_chunks w k b → i < k → c ≡ get_or cs i d → c ≡ take w (drop (i * w) b)
chunk-read w k i b d c cs e h is = is ∙ ap (λ l. get_or l i d) e ∙ get_or-chunks w k i b d h

-- a loop that reads one element a turn, and where it ends: the list behind keeps its end
pub elements-none : {A : Type 0} (g : ℕ → A) → ◌≡◌ {A = List A} [] (listed g 0)
unfolding listed
elements-none g = sym (runs_none (λ k. g k ∷ []) 0)

pub elements-turn : {A : Type 0} (g : ℕ → A) (xs : List A) (i : ℕ) (v : A) → i < length xs → take i xs ≡ listed g i → v ≡ g i
    → take (i + 1) (set xs i v) ≡ listed g (i + 1)
unfolding listed
elements-turn {A = A} g xs i v h e is =
    let z : i ≡ 0 + i = omega arith in
    take_more_set xs i v h ∙ ap (λ (l : List A). l ++ (v ∷ [])) e ∙ ap (λ (a : A). runs (λ k. g k ∷ []) 0 i ++ (a ∷ [])) (is ∙ ap g z) ∙ sym (runs-more (λ k. g k ∷ []) 0 i)

pub elements-front : {A : Type 0} (f : List ℕ → A) (w cap : ℕ) (b : List ℕ) (xs ys : List A) (i n : ℕ) → length xs ≡ n → i ≡ n → n ≡ count_in w cap (length b)
    → take i xs ≡ listed (element_at f w b) i → Front (elements_in f w cap b) (xs ++ ys) n
unfolding elements_in
elements-front {A = A} f w cap b xs ys i n l e k h =
    let t : take n (xs ++ ys) ≡ xs = take_at xs ys n l in record {
      within = omega (arith, length-append xs ys);
      sized = sym (ap length t ∙ l);
      held = t ∙ sym (take_all i xs (omega arith)) ∙ h ∙ ap (listed (element_at f w b)) (e ∙ k);
    }

pub no-numbers : (cap : ℕ) (b : List ℕ) → Misfit 2 cap (length b) → numbers_in cap b ≡ []
unfolding numbers_in listed runs
no-numbers cap b m = rw (none-counted 2 cap (length b) m)

pub no_floats : (cap : ℕ) (b : List ℕ) → Misfit 8 cap (length b) → floats_in cap b ≡ []
unfolding floats_in listed runs
no_floats cap b m = rw (none-counted 8 cap (length b) m)

pub floats-length : (cap : ℕ) (b : List ℕ) → length (floats_in cap b) ≡ count_in 8 cap (length b)
unfolding floats_in
floats-length cap b = length-listed (float_at b) (count_in 8 cap (length b))

-- the count of floats at a front
pub front-count : (cap : ℕ) (b : List ℕ) {ys : List Float} {n : ℕ} → Front (floats_in cap b) ys n → n ≡ count_in 8 cap (length b)
front-count cap b f = f.sized ∙ ap length f.held ∙ floats-length cap b

-- elements that have w bytes each
module _ {A : Type 0} (f : A → List ℕ) (w : ℕ) (wide : (x : A) → length (f x) ≡ w) where
  pub each-length : (xs : List A) → length (bytes_of_each f xs) ≡ w * length xs
  unfolding bytes_of_each
  each-length [] = sym (mul-zero w)
  each-length (x ∷ xs) = length-append (f x) (bytes_of_each f xs) ∙ ap (λ (n : ℕ). n + length (bytes_of_each f xs)) (wide x) ∙ ap (λ (n : ℕ). w + n) (each-length xs) ∙ add_comm w (w * length xs) ∙ sym (mul-suc w (length xs))

  each_append : (xs ys : List A) → bytes_of_each f (xs ++ ys) ≡ bytes_of_each f xs ++ bytes_of_each f ys
  unfolding bytes_of_each
  each_append [] ys = refl
  each_append (x ∷ xs) ys = ap (λ (l : List ℕ). f x ++ l) (each_append xs ys) ∙ sym (append_assoc (f x) (bytes_of_each f xs) (bytes_of_each f ys))

  -- where a loop that puts elements begins, and its turn; d is what an index past the end gives
  pub each_none : (src : List A) (xs : List ℕ) (at : ℕ) → xs ≡ splice xs at (bytes_of_each f (take 0 src))
  unfolding bytes_of_each
  each_none src xs at = sym (splice-nil xs at)

  each-one : (src : List A) (d : A) (i : ℕ) → i < length src → bytes_of_each f (take (i + 1) src) ≡ bytes_of_each f (take i src) ++ f (get_or src i d)
  unfolding bytes_of_each
  each-one src d i h =
      ap (λ (n : ℕ). bytes_of_each f (take n src)) (add-one i) ∙ ap (bytes_of_each f) (take-suc src i d h) ∙ each_append (take i src) (get_or src i d ∷ [])
      ∙ ap (λ (l : List ℕ). bytes_of_each f (take i src) ++ l) (append-nil (f (get_or src i d)))

  pub each_turn : (src : List A) (d : A) (xs cur new : List ℕ) (at i : ℕ) → i < length src → at + w * i ≤ length xs
      → cur ≡ splice xs at (bytes_of_each f (take i src)) → new ≡ splice cur (at + w * i) (f (get_or src i d))
      → new ≡ splice xs at (bytes_of_each f (take (i + 1) src))
  each_turn src d xs cur new at i h fits e is =
      let l : length (take i src) ≡ i = length-take-le i src (omega arith) in
      let n : length (bytes_of_each f (take i src)) ≡ w * i = each-length (take i src) ∙ ap (λ (k : ℕ). w * k) l in
      is ∙ ap (λ (l : List ℕ). splice l (at + w * i) (f (get_or src i d))) e
      ∙ splice-splice xs at (at + w * i) (bytes_of_each f (take i src)) (f (get_or src i d)) (ap (λ (k : ℕ). at + k) (sym n)) (subst (λ (k : ℕ). at + k ≤ length xs) (sym n) fits)
      ∙ ap (splice xs at) (sym (each-one src d i h))

  -- and where it ends
  pub each-all : (src : List A) (xs cur all : List ℕ) (at i : ℕ) → i ≡ length src → cur ≡ splice xs at (bytes_of_each f (take i src)) → bytes_of_each f src ≡ all
      → cur ≡ splice xs at all
  each-all src xs cur all at i n e laid =
      e ∙ ap (λ (k : ℕ). splice xs at (bytes_of_each f (take k src))) n ∙ ap (λ (l : List A). splice xs at (bytes_of_each f l)) (take-length src) ∙ ap (splice xs at) laid

pub each-float : (xs : List Float) → bytes_of_each (λ x. word_bytes (to_bits binary64 x)) xs ≡ bytes_of xs
unfolding bytes_of
each-float xs = refl

pub each-number : (ns : List ℕ) → bytes_of_each pair_bytes ns ≡ bytes_of_numbers ns
unfolding bytes_of_numbers
each-number ns = refl

pub bytes-length : (xs : List Float) → length (bytes_of xs) ≡ 8 * length xs
unfolding bytes_of
bytes-length xs = each-length (λ x. word_bytes (to_bits binary64 x)) 8 (λ x. refl) xs

pub bytes-append : (xs ys : List Float) → bytes_of (xs ++ ys) ≡ bytes_of xs ++ bytes_of ys
unfolding bytes_of
bytes-append xs ys = each_append (λ x. word_bytes (to_bits binary64 x)) 8 (λ x. refl) xs ys

pub number-bytes-length : (ns : List ℕ) → length (bytes_of_numbers ns) ≡ 2 * length ns
unfolding bytes_of_numbers
number-bytes-length ns = each-length pair_bytes 2 (λ n. refl) ns

-- two lists one behind the other
pub bytes-then : (out : List ℕ) (xs ys : List Float) (k : ℕ) → k ≡ 8 * length xs → 8 * length xs ≤ length out
    → splice (splice out 0 (bytes_of xs)) k (bytes_of ys) ≡ splice out 0 (bytes_of (xs ++ ys))
bytes-then out xs ys k e h =
    splice-splice out 0 k (bytes_of xs) (bytes_of ys) (omega (arith, bytes-length xs)) (omega (arith, bytes-length xs)) ∙ ap (splice out 0) (sym (bytes-append xs ys))

-- a float that equals itself is no NaN
pub itself : (x : Float) → ne x x ≡ false → T (not (is_nan x))
unfolding is_nan ne eq
itself nan e = subst T e tt
itself (inf s) e = tt
itself (fin s m d) e = tt

-- ---- laws: a loop that writes each element's bytes
pub bytes-none : (src : List Float) (xs : List ℕ) (at : ℕ) → xs ≡ splice xs at (bytes_of (take 0 src))
unfolding bytes_of
bytes-none src xs at = each_none (λ x. word_bytes (to_bits binary64 x)) 8 (λ x. refl) src xs at

pub bytes-turn : (src : List Float) (xs cur new : List ℕ) (at i : ℕ) → i < length src → at + 8 * i ≤ length xs
    → cur ≡ splice xs at (bytes_of (take i src)) → new ≡ splice cur (at + 8 * i) (word_bytes (to_bits binary64 (get_or src i nan)))
    → new ≡ splice xs at (bytes_of (take (i + 1) src))
unfolding bytes_of
bytes-turn src xs cur new at i h fits e is = each_turn (λ x. word_bytes (to_bits binary64 x)) 8 (λ x. refl) src nan xs cur new at i h fits e is

pub number-bytes-none : (src xs : List ℕ) (at : ℕ) → xs ≡ splice xs at (bytes_of_numbers (take 0 src))
unfolding bytes_of_numbers
number-bytes-none src xs at = each_none pair_bytes 2 (λ n. refl) src xs at

pub number-bytes-turn : (src xs cur new : List ℕ) (at i : ℕ) → i < length src → at + 2 * i ≤ length xs
    → cur ≡ splice xs at (bytes_of_numbers (take i src)) → new ≡ splice cur (at + 2 * i) (pair_bytes (get_or src i 0))
    → new ≡ splice xs at (bytes_of_numbers (take (i + 1) src))
unfolding bytes_of_numbers
number-bytes-turn src xs cur new at i h fits e is = each_turn pair_bytes 2 (λ n. refl) src 0 xs cur new at i h fits e is

-- two stores in a row
pub splice-two : (l : List ℕ) (at a b : ℕ) → at + 2 ≤ length l → set (set l at a) (at + 1) b ≡ splice l at (a ∷ b ∷ [])
splice-two l at a b h =
    let e : at + 1 ≡ suc at = omega arith in
    rw e (sym (splice-sets l at (a ∷ b ∷ []) h))
