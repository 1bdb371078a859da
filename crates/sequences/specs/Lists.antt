-- What a record lends a call and holds its outputs to: lists of floats and of u16s, stored as bytes.
use Rattle.std.specs.Prelude.{◌≡◌, Bool, List, ℕ, ◌≤◌, Float, length, take, replicate}
use Rattle.std.proofs.Common.{ap, ◌∙◌}
use Rattle.lists.specs.Splice.{splice}
use Rattle.standins.specs.Num.{half}
use Rattle.calls.specs.Arms.{if_taken}
use Rattle.lent_bytes.specs.Lent.{floats_in, room_in, number_room_in}
use Rattle.lent_bytes.specs.Picks.{picks_from}
use Rattle.lent_bytes.specs.SheetLists.{same-three}
use Rattle.stored_answers.specs.Stored.{number_at, list_of}
use Rattle.stored_answers.specs.Agree.{same-front}
use Rattle.sequences.specs.Table.{joints_list, pick_list}

-- the joint block of a record; longer lists than any that is taken count as empty, and are of a wrong length all the same
abbrev pub joints_at : List ℕ → ℕ → List Float
joints_at s at = floats_in 64 (list_of s at joints_list)

-- whether a record picks the strict list: its u16 is read as a byte call's number, and is 0 where the list has none
abbrev pub strict_at : List ℕ → ℕ → Bool
strict_at s at = (picks_from (number_at (list_of s at pick_list) 0)).strict

-- an output before its call: as long as the stored one
unfoldable pub filled_floats : List ℕ → List Float
filled_floats stored = replicate (room_in (length stored)) half

unfoldable pub filled_numbers : List ℕ → List ℕ
filled_numbers stored = replicate (number_room_in (length stored)) 42405

-- and after a call of number r that writes these where it is accepted
abbrev pub left_floats : ℕ → List ℕ → List Float → List Float
left_floats r stored xs = if_taken r (filled_floats stored) (splice (filled_floats stored) 0 xs)

abbrev pub left_numbers : ℕ → List ℕ → List ℕ → List ℕ
left_numbers r stored ns = if_taken r (filled_numbers stored) (splice (filled_numbers stored) 0 ns)

-- ---- laws
pub left-same : {A : Type 0} {r r' : ℕ} {p p' xs xs' : List A} → r ≡ r' → p ≡ p' → xs ≡ xs' → if_taken r p (splice p 0 xs) ≡ if_taken r' p' (splice p' 0 xs')
left-same e f g = same-three (λ r p xs. if_taken r p (splice p 0 xs)) e f g

pub front-floats : {a : List Float} (stored : List ℕ) (n m : ℕ) → a ≡ replicate m half → n ≡ room_in (length stored) → n ≤ m → take n a ≡ filled_floats stored
unfolding filled_floats
front-floats stored n m e l h = ap (take n) e ∙ same-front half n m h ∙ ap (λ (k : ℕ). replicate k half) l

pub front-numbers : {a : List ℕ} (stored : List ℕ) (n m : ℕ) → a ≡ replicate m 42405 → n ≡ number_room_in (length stored) → n ≤ m → take n a ≡ filled_numbers stored
unfolding filled_numbers
front-numbers stored n m e l h = ap (take n) e ∙ same-front 42405 n m h ∙ ap (λ (k : ℕ). replicate k 42405) l
