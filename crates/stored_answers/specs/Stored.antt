-- The stored list of the reference's answers, as bytes: a u16 count of records, then the records one behind the other. A record is a u16 call, a u16
-- number, and as many lists as the call has, each a u16 length and so many bytes.
use Rattle.std.specs.Prelude.{cond, List, [], ℕ, zero, suc, ◌+◌, ltb, length, take, drop}
use Rattle.lent_bytes.specs.Bytes.{pair_at}

-- the u16 at a place, 0 where the list ends before it
unfoldable pub number_at : List ℕ → ℕ → ℕ
number_at s at = cond (ltb (length s) (at + 2)) 0 (pair_at s at)

-- n bytes from a place on, none where the list ends before them
unfoldable pub part_of : List ℕ → ℕ → ℕ → List ℕ
part_of s from n = cond (ltb (length s) (from + n)) [] (take n (drop from s))

-- where list k of the record at a place begins
unfoldable pub place_of : List ℕ → ℕ → ℕ → ℕ
place_of s at zero = at + 4
place_of s at (suc k) = place_of s at k + 2 + number_at s (place_of s at k)

-- and its bytes
unfoldable pub list_of : List ℕ → ℕ → ℕ → List ℕ
list_of s at k = part_of s (place_of s at k + 2) (number_at s (place_of s at k))
