-- Laws of tables and matrices: what stands in them, when two are the same, and one turn of a loop that rewrites a matrix column by column or row by row.
use mathlib.Core.Path.{◌≡◌, refl, sym, ap, ◌∙◌}
use mathlib.Core.Bool.{Bool, true, false}
use mathlib.Core.Logic.{◌⊎◌, inl, inr, ⊎_elim}
use mathlib.Core.List.{List, [], ◌∷◌, ◌++◌}
use Prim.Native.Nat.{ℕ, zero, suc, ◌+◌, ◌*◌, ◌/◌, ◌%◌, ◌≤◌, ◌<◌}
use native.Mathlib.Nat.{eq-or-lt_of_le}
use native.Mathlib.Omega.{arith}
use lib.Dec.{eqb}
use lib.Ieee.{Float, nan}
use lib.ListN.{length, get_or, length-set, length-append, get_or-append}
use lib.Seq.{get_or_at, get_or-set_same, get_or-set_other, set-set, ext_get_or}
use borrow.Author.Tests.{eq-eqb, ne_eqb, eqb-true, eqb-false}
use Rattle.geometry.specs.Matrix.{table, entry, matrix_of, put, in_row}

-- ---- cases
pub same_or : (a b : ℕ) → (a ≡ b) ⊎ (a ≡ b → ⊥)
same_or a b = pick (eqb a b) refl
  where
    pick : (t : Bool) → eqb a b ≡ t → (a ≡ b) ⊎ (a ≡ b → ⊥)
    pick true e = inl (eqb-true a b e)
    pick false e = inr (eqb-false a b e)

-- ---- tables
pub length-table : (f : ℕ → Float) (n : ℕ) → length (table f n) ≡ n
unfolding table
length-table f zero = refl
length-table f (suc n) = length-append (table f n) (f n ∷ []) ∙ omega (arith, length-table f n)

pub get_or-table : (f : ℕ → Float) (n i : ℕ) → i < n → get_or (table f n) i nan ≡ f i
unfolding table
get_or-table f zero i h = absurd (omega arith)
get_or-table f (suc n) i h =
    ⊎_elim
    (λ (e : i ≡ n). ap (λ (z : ℕ). get_or (table f n ++ (f n ∷ [])) z nan) e ∙ get_or_at (table f n) (f n) [] nan n (length-table f n) ∙ ap f (sym e))
    (λ (l : i < n). get_or-append (table f n) (f n ∷ []) nan i (omega (arith, length-table f n)) ∙ get_or-table f n i l)
    (eq-or-lt_of_le (omega arith))

pub table_is : (f : ℕ → Float) (n : ℕ) (xs : List Float) → length xs ≡ n → ((i : ℕ) → i < n → get_or xs i nan ≡ f i) → xs ≡ table f n
table_is f n xs l e =
    ext_get_or nan xs (table f n) (l ∙ sym (length-table f n))
    (λ i h. let b : i < n = omega arith in e i b ∙ sym (get_or-table f n i b))

-- ---- matrices
pub length-matrix : (f : ℕ → ℕ → Float) → length (matrix_of f) ≡ 36
unfolding matrix_of
length-matrix f = length-table (λ n. f (n / 6) (n % 6)) 36

pub entry-matrix : (f : ℕ → ℕ → Float) (i j : ℕ) → i < 6 → j < 6 → entry (matrix_of f) i j ≡ f i j
unfolding matrix_of
entry-matrix f i j hi hj =
    let d : (6 * i + j) / 6 ≡ i = omega arith in
    let m : (6 * i + j) % 6 ≡ j = omega arith in
    get_or-table (λ n. f (n / 6) (n % 6)) 36 (6 * i + j) (omega arith) ∙ ap (λ (z : ℕ). f z ((6 * i + j) % 6)) d ∙ ap (f i) m

pub matrix-is : (f : ℕ → ℕ → Float) (m : List Float) → length m ≡ 36 → ((i j : ℕ) → i < 6 → j < 6 → entry m i j ≡ f i j) → m ≡ matrix_of f
unfolding matrix_of
matrix-is f m l e =
    table_is (λ n. f (n / 6) (n % 6)) 36 m l
    (λ n h. let d : n ≡ 6 * (n / 6) + n % 6 = omega arith in
    ap (λ (z : ℕ). get_or m z nan) d ∙ e (n / 6) (n % 6) (omega arith) (omega arith))

pub matrix-same : (f g : ℕ → ℕ → Float) → ((i j : ℕ) → i < 6 → j < 6 → f i j ≡ g i j) → matrix_of f ≡ matrix_of g
matrix-same f g e = matrix-is g (matrix_of f) (length-matrix f) (λ i j hi hj. entry-matrix f i j hi hj ∙ e i j hi hj)

-- what stands in a matrix after an entry is put
pub entry-put-same : (m : List Float) (i j : ℕ) (v : Float) → length m ≡ 36 → i < 6 → j < 6 → entry (put m i j v) i j ≡ v
entry-put-same m i j v l hi hj = get_or-set_same m (6 * i + j) v nan (omega arith)

pub entry-put-other : (m : List Float) (i j r s : ℕ) (v : Float) → (6 * r + s ≡ 6 * i + j → ⊥) → entry (put m i j v) r s ≡ entry m r s
entry-put-other m i j r s v ne = get_or-set_other m (6 * i + j) (6 * r + s) v nan ne

-- ---- a matrix that a loop rewrites: an entry's place is the turn that comes to it

-- column by column
abbrev pub by_column : ℕ → ℕ → ℕ
by_column i j = j

-- row by row
abbrev pub by_row : ℕ → ℕ → ℕ
by_row i j = i

-- cur is the matrix before turn n: g's entries where the loop has been, m's where it has not
pub record Rewritten (place : ℕ → ℕ → ℕ) (g : ℕ → ℕ → Float) (m : List Float) (n : ℕ) (cur : List Float) : Type 0 where
  pub sized : length cur ≡ 36
  pub behind : (i j : ℕ) → i < 6 → j < 6 → place i j < n → entry cur i j ≡ g i j
  pub ahead : (i j : ℕ) → i < 6 → j < 6 → n ≤ place i j → entry cur i j ≡ entry m i j

module _ {place : ℕ → ℕ → ℕ} {g : ℕ → ℕ → Float} {m : List Float} where
  -- the loop may begin at turn n if g's entries before it are m's
  pub rewritten-none : (n : ℕ) → length m ≡ 36 → ((i j : ℕ) → place i j < n → entry m i j ≡ g i j) → Rewritten place g m n m
  rewritten-none n l e = record { sized = l; behind = λ i j hi hj b. e i j b; ahead = λ i j hi hj b. refl }

  -- it may begin at turn 0
  pub rewritten-start : length m ≡ 36 → Rewritten place g m 0 m
  rewritten-start l = rewritten-none 0 l (λ i j b. absurd (omega arith))

  -- where no entry is ahead the matrix is g's
  pub rewritten-all : {n : ℕ} {cur : List Float} → Rewritten place g m n cur → ((i j : ℕ) → i < 6 → j < 6 → place i j < n) → cur ≡ matrix_of g
  rewritten-all {n} {cur} w b = matrix-is g cur w.sized (λ i j hi hj. w.behind i j hi hj (b i j hi hj))

  -- one turn: the entries at place n are now g's, the others stay
  pub rewritten-turn : {n : ℕ} {cur : List Float} → Rewritten place g m n cur → (new : List Float) → length new ≡ 36
      → ((i j : ℕ) → i < 6 → j < 6 → place i j ≡ n → entry new i j ≡ g i j)
      → ((i j : ℕ) → i < 6 → j < 6 → (place i j ≡ n → ⊥) → entry new i j ≡ entry cur i j)
      → Rewritten place g m (n + 1) new
  rewritten-turn {n} {cur} w new l here there =
      record {
        sized = l;
        behind = λ i j hi hj b.
            ⊎_elim (here i j hi hj) (λ (e : place i j ≡ n → ⊥). there i j hi hj e ∙ w.behind i j hi hj (omega arith)) (same_or (place i j) n);
        ahead = λ i j hi hj b. there i j hi hj (λ e. omega arith) ∙ w.ahead i j hi hj (omega arith);
      }

-- ---- a loop over the columns: turn c puts x in row a and y in row b, which are g's there; the other rows are g's already
pub columns-turn : {g : ℕ → ℕ → Float} {m cur : List Float} {c : ℕ} → Rewritten by_column g m c cur → (a b : ℕ) (x y : Float) → a < 6 → b < 6 → c < 6
    → x ≡ g a c → y ≡ g b c → ((i : ℕ) → (i ≡ a → ⊥) → (i ≡ b → ⊥) → entry m i c ≡ g i c) → Rewritten by_column g m (c + 1) (put (put cur a c x) b c y)
columns-turn {g} {m} {cur} {c} w a b x y ha hb hc ex ey rest =
    rewritten-turn w (put first b c y) (length-set first (6 * b + c) y ∙ sized) (λ i j hi hj q. rw q (here i hi))
    (λ i j hi hj n. entry-put-other first b c i j y (λ z. n (omega arith)) ∙ entry-put-other cur a c i j x (λ z. n (omega arith)))
  where
    first : List Float
    first = put cur a c x

    sized : length first ≡ 36
    sized = length-set cur (6 * a + c) x ∙ w.sized

    here : (i : ℕ) → i < 6 → entry (put first b c y) i c ≡ g i c
    here i hi =
        ⊎_elim
        (λ (q : i ≡ b). rw q (entry-put-same first b c y sized hb hc ∙ ey))
        (λ (n : i ≡ b → ⊥).
        entry-put-other first b c i c y (λ z. n (omega arith))
        ∙ ⊎_elim
        (λ (q : i ≡ a). rw q (entry-put-same cur a c x w.sized ha hc ∙ ex))
        (λ (n' : i ≡ a → ⊥). entry-put-other cur a c i c x (λ z. n' (omega arith)) ∙ w.ahead i c hi hc (omega arith) ∙ rest i n' n)
        (same_or i a))
        (same_or i b)

-- ---- row i is f's, the others are m's
module _ (m : List Float) (i : ℕ) (f : ℕ → Float) where
  -- what stands in row i
  row_here : (r j : ℕ) → r ≡ i → in_row m i f r j ≡ f j
  row_here r j e = rw (eq-eqb r i e)

  -- what stands in another
  row-there : (r j : ℕ) → (r ≡ i → ⊥) → in_row m i f r j ≡ entry m r j
  row-there r j n = rw (ne_eqb r i n)

  -- a loop over the columns of row i: turn c puts what f says of column c
  pub row-turn : {cur : List Float} {c : ℕ} → Rewritten by_column (in_row m i f) m c cur → (v : Float) → i < 6 → c < 6 → v ≡ f c
      → Rewritten by_column (in_row m i f) m (c + 1) (put cur i c v)
  row-turn {cur} {c} w v hi hc e =
      let h : v ≡ in_row m i f i c = e ∙ sym (row_here i c refl) in
      rw set-set at (columns-turn w i i v v hi hi hc h h (λ r n n'. sym (row-there r c n)))

-- ---- a loop over the rows: turn i makes row i f's, which is g's there
pub rows-turn : {g : ℕ → ℕ → Float} {m cur : List Float} {i : ℕ} → Rewritten by_row g m i cur → (f : ℕ → Float) → ((j : ℕ) → j < 6 → f j ≡ g i j)
    → Rewritten by_row g m (i + 1) (matrix_of (in_row cur i f))
rows-turn {g} {m} {cur} {i} w f e =
    rewritten-turn w (matrix_of (in_row cur i f)) (length-matrix (in_row cur i f))
    (λ r j hr hj q. entry-matrix (in_row cur i f) r j hr hj ∙ row_here cur i f r j q ∙ rw q (e j hj))
    (λ r j hr hj n. entry-matrix (in_row cur i f) r j hr hj ∙ row-there cur i f r j n)
