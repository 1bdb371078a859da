-- What a byte call is lent: the sheet's four lists as one value, and the lists beside it.
use Rattle.std.specs.Prelude.{◌≡◌, List, ℕ, Float, length}
use Rattle.std.proofs.Common.{ap, ◌∙◌}
use Rattle.lists.specs.Lent.{LentList, lent, LentOutput, output_lent}
use Rattle.lent_bytes.specs.Lent.{numbers_in, floats_in, room_in, number_room_in}

-- the arm sheet and its limits
pub record SheetLists : Type 0 where
  pub sizes : List ℕ
  pub codes : List ℕ
  pub floats : List Float
  pub limits : List Float

abbrev pub sheet_with : List ℕ → List ℕ → List Float → List Float → SheetLists
sheet_with sizes codes floats limits = record { sizes = sizes; codes = codes; floats = floats; limits = limits }

-- as decoded lists
abbrev pub sheet_of : {X Y Z W : Type 0} → LentList ℕ X → LentList ℕ Y → LentList Float Z → LentList Float W → SheetLists
sheet_of sizes codes floats limits = sheet_with (lent sizes) (lent codes) (lent floats) (lent limits)

-- as bytes, each list with the longest that is taken
abbrev pub sizes_from : List ℕ → List ℕ
sizes_from sizes = numbers_in 5 sizes

abbrev pub codes_from : List ℕ → List ℕ
codes_from codes = numbers_in 64 codes

abbrev pub link_floats_from : List ℕ → List Float
link_floats_from floats = floats_in 448 floats

abbrev pub limits_from : List ℕ → List Float
limits_from limits = floats_in 32 limits

abbrev pub sheet_from : List ℕ → List ℕ → List ℕ → List ℕ → SheetLists
sheet_from sizes codes floats limits = sheet_with (sizes_from sizes) (codes_from codes) (link_floats_from floats) (limits_from limits)

abbrev pub sizes_in : {X : Type 0} → LentList ℕ X → List ℕ
sizes_in sizes = sizes_from (lent sizes)

abbrev pub codes_in : {X : Type 0} → LentList ℕ X → List ℕ
codes_in codes = codes_from (lent codes)

abbrev pub link_floats_in : {X : Type 0} → LentList ℕ X → List Float
link_floats_in floats = link_floats_from (lent floats)

abbrev pub limits_in : {X : Type 0} → LentList ℕ X → List Float
limits_in limits = limits_from (lent limits)

abbrev pub sheet_in : {X Y Z W : Type 0} → LentList ℕ X → LentList ℕ Y → LentList ℕ Z → LentList ℕ W → SheetLists
sheet_in sizes codes floats limits = sheet_from (lent sizes) (lent codes) (lent floats) (lent limits)

-- a joint block, goals and a history as bytes, each with the longest that is taken
abbrev pub block_from : List ℕ → List Float
block_from joints = floats_in 16 joints

abbrev pub goals_from : List ℕ → List Float
goals_from goals = floats_in 52 goals

abbrev pub history_from : List ℕ → List Float
history_from history = floats_in 64 history

abbrev pub block_in : {X : Type 0} → LentList ℕ X → List Float
block_in joints = block_from (lent joints)

abbrev pub goals_in : {X : Type 0} → LentList ℕ X → List Float
goals_in goals = goals_from (lent goals)

abbrev pub history_in : {X : Type 0} → LentList ℕ X → List Float
history_in history = history_from (lent history)

-- the room in floats of an output, and in u16s
abbrev pub room_of : LentOutput ℕ → ℕ
room_of out = room_in (length (output_lent out))

abbrev pub number_room_of : LentOutput ℕ → ℕ
number_room_of out = number_room_in (length (output_lent out))

-- ---- laws: lists that are equal
pub same-two : {A B C : Type 0} (f : A → B → C) {a a' : A} {b b' : B} → a ≡ a' → b ≡ b' → f a b ≡ f a' b'
same-two f {a' = a'} {b = b} p q = ap (λ x. f x b) p ∙ ap (f a') q

pub same-three : {A B C D : Type 0} (f : A → B → C → D) {a a' : A} {b b' : B} {c c' : C} → a ≡ a' → b ≡ b' → c ≡ c' → f a b c ≡ f a' b' c'
same-three f {a' = a'} {b' = b'} {c = c} p q r = same-two (λ a b. f a b c) p q ∙ ap (f a' b') r

pub same-sheet : {s s' c c' : List ℕ} {f f' l l' : List Float} → s ≡ s' → c ≡ c' → f ≡ f' → l ≡ l' → sheet_with s c f l ≡ sheet_with s' c' f' l'
same-sheet {s' = s'} {c = c} {c' = c'} {f = f} {f' = f'} {l = l} p q r t =
    ap (λ x. sheet_with x c f l) p ∙ ap (λ x. sheet_with s' x f l) q ∙ ap (λ x. sheet_with s' c' x l) r ∙ ap (sheet_with s' c' f') t
