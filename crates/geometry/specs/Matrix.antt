-- Matrices of six rows of six, as lists row after row: the determinant, and J-as-Jᵀ.
use Rattle.std.specs.Prelude.{cond, List, [], ◌∷◌, ◌++◌, ℕ, zero, suc, ◌+◌, ◌-◌, ◌*◌, ◌/◌, ◌%◌, eqb, ltb, Float, length, get_or, set}
use Rattle.std.specs.Float.{nan}
use Rattle.std.specs.Float.Ieee.{neg, lt, eq}
use Rattle.standins.specs.Num.{◌⊕◌, ◌⊖◌, ◌⊗◌, ◌⊘◌, nought, one, abs_of}

-- f of 0, 1, .., n - 1
unfoldable pub table : (ℕ → Float) → ℕ → List Float
table f zero = []
table f (suc n) = table f n ++ (f n ∷ [])

-- the entry of m in row i and column j
abbrev pub entry : List Float → ℕ → ℕ → Float
entry m i j = get_or m (6 * i + j) nan

-- the matrix with f i j in row i and column j
unfoldable pub matrix_of : (ℕ → ℕ → Float) → List Float
matrix_of f = table (λ n. f (n / 6) (n % 6)) 36

-- ---- the determinant, by partial pivoting

-- of rows p and i the one with the larger absolute value in column k, p on a tie
unfoldable pub larger_of : List Float → ℕ → ℕ → ℕ → ℕ
larger_of m k p i = cond (lt (abs_of (entry m p k)) (abs_of (entry m i k))) i p

-- of row k and the n rows below it the one with the largest absolute value in column k, the upper one on a tie
unfoldable pub largest_of : List Float → ℕ → ℕ → ℕ
largest_of m k zero = k
largest_of m k (suc n) = larger_of m k (largest_of m k n) (k + suc n)

-- the pivot's row: of row k and those below it
unfoldable pub pivot_row_of : List Float → ℕ → ℕ
pivot_row_of m k = largest_of m k (5 - k)

-- the row that comes to stand in row i when rows k and p are swapped
unfoldable pub other_row : ℕ → ℕ → ℕ → ℕ
other_row k p i = cond (eqb i k) p (cond (eqb i p) k i)

-- rows k and p swapped: a row swapped with itself stays
unfoldable pub swap_of : List Float → ℕ → ℕ → List Float
swap_of m k p = matrix_of (λ i j. entry m (other_row k p i) j)

-- a swap counts if the rows differ
unfoldable pub swap_count : ℕ → ℕ → ℕ
swap_count k p = cond (eqb k p) 0 1

-- row i's entry in column j, less (entry/pivot)·(pivot row), the pivot being row k's entry in column k
unfoldable pub eliminated_of : List Float → ℕ → ℕ → ℕ → Float
eliminated_of m k i j = entry m i j ⊖ (entry m i k ⊘ entry m k k) ⊗ entry m k j

-- each row below k loses
unfoldable pub eliminate_of : List Float → ℕ → List Float
eliminate_of m k = matrix_of (λ i j. cond (ltb k i) (eliminated_of m k i j) (entry m i j))

-- the product of the diagonal, from 1
unfoldable pub diagonal_of : List Float → Float
diagonal_of m = one ⊗ entry m 0 0 ⊗ entry m 1 1 ⊗ entry m 2 2 ⊗ entry m 3 3 ⊗ entry m 4 4 ⊗ entry m 5 5

-- negated for an odd number of swaps
unfoldable pub signed_of : ℕ → Float → Float
signed_of swaps d = cond (eqb (swaps % 2) 1) (neg d) d

-- n steps from column k on, after so many swaps: a zero pivot gives 0; else the pivot's row is swapped up and each lower row loses
unfoldable pub steps_of : List Float → ℕ → ℕ → ℕ → Float
steps_of m swaps k zero = signed_of swaps (diagonal_of m)
steps_of m swaps k (suc n) =
    let p = pivot_row_of m k in
    cond (eq (entry m p k) nought) nought
    (steps_of (eliminate_of (swap_of m k p) k) (swaps + swap_count k p) (k + 1) n)

-- all six steps, from column 0
unfoldable pub determinant_of : List Float → Float
determinant_of m = steps_of m 0 0 6

-- ---- the product of J with its transpose, J given by columns of six floats

-- the sum over the first n columns of (row r's entry)·(row s's entry), from 0
unfoldable pub sum_to : List Float → ℕ → ℕ → ℕ → Float
sum_to js r s zero = nought
sum_to js r s (suc c) = sum_to js r s c ⊕ get_or js (6 * c + r) nan ⊗ get_or js (6 * c + s) nan

-- over all whole columns
unfoldable pub sum_of : List Float → ℕ → ℕ → Float
sum_of js r s = sum_to js r s (length js / 6)

-- J-as-Jᵀ
unfoldable pub gram_of : List Float → List Float
gram_of js = matrix_of (sum_of js)

-- ---- what the code's loops leave on the way

-- m with v in row i and column j
abbrev pub put : List Float → ℕ → ℕ → Float → List Float
put m i j v = set m (6 * i + j) v

-- in row i what f says of each column, m's entries in the other rows
abbrev pub in_row : List Float → ℕ → (ℕ → Float) → ℕ → ℕ → Float
in_row m i f r j = cond (eqb r i) (f j) (entry m r j)

-- of the product: row r's entry in column s of m, plus column c's (row r's entry)·(row s's entry)
unfoldable pub added_of : List Float → List Float → ℕ → ℕ → ℕ → Float
added_of m js c r s = entry m r s ⊕ get_or js (6 * c + r) nan ⊗ get_or js (6 * c + s) nan

-- each row gains
unfoldable pub add_column_of : List Float → List Float → ℕ → List Float
add_column_of m js c = matrix_of (added_of m js c)
