-- Laws of the sums in J-as-Jᵀ: one turn of each loop that adds a column to them.
use mathlib.Core.Path.{◌≡◌}
use mathlib.Core.List.{List}
use Prim.Native.Nat.{ℕ, ◌+◌, ◌<◌}
use native.Mathlib.Numerals.{add-one}
use native.Mathlib.Omega.{arith}
use lib.Ieee.{Float}
use Rattle.geometry.specs.Matrix.{matrix_of, in_row, sum_to, added_of, add_column_of}
use Rattle.geometry.proofs.Tables.{entry-matrix, matrix-same, Rewritten, by_row, rows-turn}

-- the rows gain, row by row
pub gain-row : {m cur : List Float} (js : List Float) (c : ℕ) {r : ℕ} → r < 6 → Rewritten by_row (added_of m js c) m r cur
    → Rewritten by_row (added_of m js c) m (r + 1) (matrix_of (in_row cur r (added_of cur js c r)))
unfolding added_of
gain-row {m} {cur} js c {r} hr w = rows-turn w (added_of cur js c r) (λ s hs. rw (w.ahead r s hr hs (omega arith)))

-- the sums gain, column by column of J
abbrev pub sums : List Float → ℕ → ℕ → ℕ → Float
sums js c r s = sum_to js r s c

pub sums-turn : (js : List Float) (c : ℕ) → add_column_of (matrix_of (sums js c)) js c ≡ matrix_of (sums js (c + 1))
unfolding add_column_of added_of sum_to
sums-turn js c =
    matrix-same (added_of (matrix_of (sums js c)) js c) (sums js (c + 1))
    (λ r s hr hs. rw (add-one, entry-matrix (sums js c) r s hr hs))
