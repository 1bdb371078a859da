-- Lists of floats as little-endian bytes.
use Rattle.std.specs.Prelude.{true, cond, ◌≡◌, refl, List, ℕ, ◌+◌, ◌*◌, ltb, length, get_or, Float}
use Rattle.std.proofs.lemmas.Bool.{false≢true}
use Rattle.std.proofs.Common.{sym, ◌∙◌}
use Rattle.std.specs.Float.{nan, inf, fin, binary64}
use Rattle.std.specs.Float.Ieee.{of_bits, nan_bits, is_nan}
use Rattle.std.specs.Float.Ieee.Bits.{nan_bits_is}

-- two, four and eight bytes from at, the lowest first
abbrev pub pair_at : List ℕ → ℕ → ℕ
pair_at b at = get_or b at 0 + 256 * get_or b (at + 1) 0

abbrev pub half_at : List ℕ → ℕ → ℕ
half_at b at = pair_at b at + 65536 * pair_at b (at + 2)

abbrev pub word_at : List ℕ → ℕ → ℕ
word_at b at = half_at b at + 4294967296 * half_at b (at + 4)

-- float i, a NaN where the list ends before it
unfoldable pub float_at : List ℕ → ℕ → Float
float_at b i = cond (ltb (length b) (8 * i + 8)) nan (of_bits binary64 (word_at b (8 * i)))

-- a NaN's pattern gives a NaN
is-nan : (x : Float) → is_nan x ≡ true → x ≡ nan
unfolding is_nan
is-nan nan h = refl
is-nan (inf s) h = absurd (false≢true h)
is-nan (fin s m e) h = absurd (false≢true h)

pub nan_pattern : (n : ℕ) → nan_bits binary64 n ≡ true → of_bits binary64 n ≡ nan
nan_pattern n h = is-nan (of_bits binary64 n) (sym (nan_bits_is binary64 n) ∙ h)
