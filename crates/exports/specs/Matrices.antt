-- Matrices as little-endian bytes. A list of another length is answered with a NaN.
use Rattle.std.specs.Prelude.{cond, List, ℕ, ◌+◌, ◌*◌, ◌/◌, ◌%◌, ltb, eqb, length, get_or, take, Float}
use Rattle.std.specs.Float.{nan}
use Rattle.lists.specs.Listed.{listed}
use Rattle.geometry.specs.Matrix.{determinant_of, gram_of}
use Rattle.lent_bytes.specs.Bytes.{float_at}

-- of six rows of six floats
unfoldable pub determinant_in : List ℕ → Float
determinant_in b = cond (eqb (length b) 288) (determinant_of (listed (float_at b) 36)) nan

-- the floats of columns of six, at most sixteen columns
unfoldable pub columns_in : List ℕ → List Float
columns_in b = take (length b / 8) (listed (float_at b) 96)

-- an entry of the product with the transpose, NaN past row or column 5
unfoldable pub gram_entry : List ℕ → ℕ → ℕ → Float
gram_entry b r c =
    cond (eqb (length b % 48) 0)
    (cond (ltb 768 (length b)) nan
    (cond (ltb 5 r) nan
    (cond (ltb 5 c) nan
    (get_or (gram_of (columns_in b)) (6 * r + c) nan))))
    nan
