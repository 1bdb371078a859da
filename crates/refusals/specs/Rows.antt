-- Which number a call gets, said once for all calls: its conditions in order, each with its number.
use Rattle.std.specs.Prelude.{◌≡◌, Bool, true, cond, ◌&&◌, ◌⊎◌, List, [], ◌∷◌, ◌++◌, ℕ, zero, suc, ◌≤◌, leb, ltb, Float, length, get_or}
use Rattle.std.proofs.Math.Path.{refl}
use Rattle.std.proofs.Common.{sym, ◌∙◌, inl, inr, le_refl, arith, leb-true, le-leb}
use Rattle.std.proofs.Math.Bool.{false}
use Rattle.std.proofs.lemmas.Bool.{false≢true}
use Rattle.sheet.specs.Chain.{joints}
use Rattle.lists.specs.Tests.{and-true}
use Rattle.refusals.specs.Lowest.{lowest_from, lowest, first_of, first-zero, first_some, first-last}
use Rattle.refusals.specs.Refusal.{links_of, bad_sizes, bad_lengths, bad_codes, bad_joints, bad_limits, bad_floats, bad_block, bad_history, bad_goals, bad_weights, bad_tool, bad_tools, load_refusal, sizing_refusal, block_refusal, history_refusal, goals_refusal, room_refusal, weights_refusal, tool_refusal, tools_refusal}

-- a condition and the number with which it refuses
pub record Row : Type 0 where
  pub number : ℕ
  pub holds : Bool

abbrev pub row : ℕ → Bool → Row
row n b = record { number = n; holds = b }

-- row i; past the end stands one that never holds
abbrev pub row_at : List Row → ℕ → Row
row_at rs i = get_or rs i (row 0 false)

-- the number of the first row that holds; 0 if none does
unfoldable pub first_row : List Row → ℕ
first_row [] = 0
first_row (r ∷ rs) = cond r.holds r.number (first_row rs)

-- the numbers go up, from k on
unfoldable pub up_from : ℕ → List Row → Bool
up_from k [] = true
up_from k (r ∷ rs) = leb k r.number && up_from r.number rs

-- a row of number n that holds
pub record Held (rs : List Row) (n : ℕ) : Type 0 where
  pub at : ℕ
  pub holds : (row_at rs at).holds ≡ true
  pub number : (row_at rs at).number ≡ n

-- n is the lowest number of a row that holds, and 0 where none does: nothing is refused that no row names, and no row that holds is passed over
pub record IsLowest (rs : List Row) (n : ℕ) : Type 0 where
  pub sound : (n ≡ 0 → ⊥) → Held rs n
  pub least : (i : ℕ) → (row_at rs i).holds ≡ true → (1 ≤ n) × (n ≤ (row_at rs i).number)

-- a call's number: the state is looked at first, then the input; within each list the lowest number wins
abbrev pub Numbered : List Row → List Row → ℕ → Type 0
Numbered state input n = ((n ≡ 0 → ⊥) × IsLowest state n) ⊎ (IsLowest state 0 × IsLowest input n)

-- ---- the rows of what is lent
-- a sheet's lengths and codes: 1 to 4
abbrev pub shape_rows : List ℕ → List ℕ → ℕ → List Row
shape_rows sizes codes floats =
    row 1 (bad_sizes sizes) ∷ row 2 (bad_lengths (links_of sizes) codes floats) ∷ row 3 (bad_codes codes) ∷ row 4 (bad_joints (links_of sizes) codes) ∷ []

abbrev pub limits_row : ℕ → List Float → Row
limits_row joints limits = row 5 (bad_limits joints limits)

abbrev pub floats_row : ℕ → List Float → Row
floats_row links floats = row 6 (bad_floats links floats)

-- loading: 1 to 6
abbrev pub load_rows : List ℕ → List ℕ → List Float → List Float → List Row
load_rows sizes codes floats limits = shape_rows sizes codes (length floats) ++ (limits_row (joints codes) limits ∷ floats_row (length codes) floats ∷ [])

-- sizing: 1 to 4 and 6
abbrev pub sizing_rows : List ℕ → List ℕ → List Float → List Row
sizing_rows sizes codes floats = shape_rows sizes codes (length floats) ++ (floats_row (length codes) floats ∷ [])

abbrev pub block_row : List ℕ → List Float → Row
block_row codes x = row 7 (bad_block codes x)

abbrev pub history_row : List ℕ → List Float → Row
history_row codes history = row 7 (bad_history codes history)

abbrev pub goals_row : ℕ → List Float → Row
goals_row chains goals = row 8 (bad_goals chains goals)

abbrev pub room_row : ℕ → ℕ → Row
room_row needed have = row 9 (ltb have needed)

abbrev pub weights_row : List Float → Row
weights_row ws = row 10 (bad_weights ws)

abbrev pub tool_row : ℕ → ℕ → List Float → Row
tool_row chains c tool = row 11 (bad_tool chains c tool)

abbrev pub tools_row : ℕ → List Float → Row
tools_row chains tools = row 11 (bad_tools chains tools)

-- ---- laws: the first row is the lowest
up_least : (k : ℕ) (rs : List Row) (i : ℕ) → up_from k rs ≡ true → (row_at rs i).holds ≡ true → k ≤ (row_at rs i).number
unfolding up_from
up_least k [] i u e = absurd (false≢true e)
up_least k (r ∷ rs) zero u e = leb-true k r.number (and-true (leb k r.number) (up_from r.number rs) u).0
up_least k (r ∷ rs) (suc i) u e =
    let a = and-true (leb k r.number) (up_from r.number rs) u in
    omega (arith, leb-true k r.number a.0, up_least r.number rs i a.1 e)

passed_over : (r : Row) (rs : List Row) (n : ℕ) → r.holds ≡ false
    → ((i : ℕ) → (row_at rs i).holds ≡ true → (1 ≤ n) × (n ≤ (row_at rs i).number))
    → (i : ℕ) → (row_at (r ∷ rs) i).holds ≡ true → (1 ≤ n) × (n ≤ (row_at (r ∷ rs) i).number)
passed_over r rs n q f zero e = absurd (false≢true (sym q ∙ e))
passed_over r rs n q f (suc i) e = f i e

next_row : (k : ℕ) (r : Row) (rs : List Row) → 1 ≤ k → up_from k (r ∷ rs) ≡ true → IsLowest rs (first_row rs) → (b : Bool) → r.holds ≡ b
    → IsLowest (r ∷ rs) (cond b r.number (first_row rs))
unfolding up_from
next_row k r rs h u l true q =
    let a = and-true (leb k r.number) (up_from r.number rs) u in
    let some : 1 ≤ r.number = omega (arith, leb-true k r.number a.0) in
    let up : up_from r.number (r ∷ rs) ≡ true = rw (le-leb r.number r.number (le_refl r.number)) a.1 in
    record { sound = λ z. record { at = 0; holds = q; number = refl }; least = λ i e. (some, up_least r.number (r ∷ rs) i up e) }
next_row k r rs h u l false q = record {
  sound = λ z. let s = l.sound z in record { at = suc s.at; holds = s.holds; number = s.number };
  least = passed_over r rs (first_row rs) q l.least;
}

lowest-from : (k : ℕ) (rs : List Row) → 1 ≤ k → up_from k rs ≡ true → IsLowest rs (first_row rs)
unfolding up_from first_row
lowest-from k [] h u = record { sound = λ z. absurd (z refl); least = λ i e. absurd (false≢true e) }
lowest-from k (r ∷ rs) h u =
    let a = and-true (leb k r.number) (up_from r.number rs) u in
    next_row k r rs h u (lowest-from r.number rs (omega (arith, leb-true k r.number a.0)) a.1) r.holds refl

pub lowest-row : (rs : List Row) (n : ℕ) → up_from 1 rs ≡ true → n ≡ first_row rs → IsLowest rs n
lowest-row rs n u e = rw e (lowest-from 1 rs (omega arith) u)

-- and of two lists, the state's before the input's
pub numbered : (state input : List Row) (n : ℕ) → up_from 1 state ≡ true → up_from 1 input ≡ true → n ≡ first_of (first_row state) (first_row input)
    → Numbered state input n
numbered state input n u v e = go (first_row state) refl
  where
    go : (k : ℕ) → first_row state ≡ k → Numbered state input n
    go zero q = inr (lowest-row state 0 u (sym q), lowest-row input n v (e ∙ first-zero (first_row state) (first_row input) q))
    go (suc k) q =
        let f : n ≡ first_row state = e ∙ first_some (first_row state) (first_row input) (λ z. omega (arith, q, z)) in
        inl (λ z. omega (arith, q, f, z), lowest-row state n u f)

-- ---- laws: numbers taken one after the other are those of rows
first-cond : (b : Bool) (k n : ℕ) → first_of (cond b (suc k) 0) n ≡ cond b (suc k) n
first-cond true k n = first_some (suc k) n (λ z. omega arith)
first-cond false k n = first-zero 0 n refl

pub then-row : (k : ℕ) (b : Bool) (rs : List Row) → first_of (cond b (suc k) 0) (first_row rs) ≡ first_row (row (suc k) b ∷ rs)
unfolding first_row
then-row k b rs = first-cond b k (first_row rs)

pub block-row : (codes : List ℕ) (x : List Float) (rs : List Row) → first_of (block_refusal codes x) (first_row rs) ≡ first_row (block_row codes x ∷ rs)
unfolding block_refusal
block-row codes x rs = then-row 6 (bad_block codes x) rs

pub history-row : (codes : List ℕ) (history : List Float) (rs : List Row)
    → first_of (history_refusal codes history) (first_row rs) ≡ first_row (history_row codes history ∷ rs)
unfolding history_refusal
history-row codes history rs = then-row 6 (bad_history codes history) rs

pub goals-row : (chains : ℕ) (goals : List Float) (rs : List Row) → first_of (goals_refusal chains goals) (first_row rs) ≡ first_row (goals_row chains goals ∷ rs)
unfolding goals_refusal
goals-row chains goals rs = then-row 7 (bad_goals chains goals) rs

pub room_row_lem : (needed have : ℕ) (rs : List Row) → first_of (room_refusal needed have) (first_row rs) ≡ first_row (room_row needed have ∷ rs)
unfolding room_refusal
room_row_lem needed have rs = then-row 8 (ltb have needed) rs

pub weights-row : (ws : List Float) (rs : List Row) → first_of (weights_refusal ws) (first_row rs) ≡ first_row (weights_row ws ∷ rs)
unfolding weights_refusal
weights-row ws rs = then-row 9 (bad_weights ws) rs

pub tool-row : (chains c : ℕ) (tool : List Float) (rs : List Row) → first_of (tool_refusal chains c tool) (first_row rs) ≡ first_row (tool_row chains c tool ∷ rs)
unfolding tool_refusal
tool-row chains c tool rs = then-row 10 (bad_tool chains c tool) rs

pub tools-row : (chains : ℕ) (tools : List Float) (rs : List Row) → first_of (tools_refusal chains tools) (first_row rs) ≡ first_row (tools_row chains tools ∷ rs)
unfolding tools_refusal
tools-row chains tools rs = then-row 10 (bad_tools chains tools) rs

-- a number with no more to come
pub alone : (a n : ℕ) → first_of a (first_row []) ≡ n → a ≡ n
unfolding first_row
alone a n e = sym (first-last a 0 refl) ∙ e

-- ---- loading, alone and before a call's own rows
load-then : (a b c d e f : Bool) (n : ℕ) → first_of (lowest (a ∷ b ∷ c ∷ d ∷ e ∷ f ∷ [])) n
    ≡ cond a 1 (cond b 2 (cond c 3 (cond d 4 (cond e 5 (cond f 6 n)))))
unfolding lowest lowest_from first_of
load-then true b c d e f n = refl
load-then false true c d e f n = refl
load-then false false true d e f n = refl
load-then false false false true e f n = refl
load-then false false false false true f n = refl
load-then false false false false false true n = refl
load-then false false false false false false n = refl

module _ (sizes codes : List ℕ) (floats limits : List Float) where
  pub load_row : (rs : List Row) → first_of (load_refusal sizes codes floats limits) (first_row rs) ≡ first_row (load_rows sizes codes floats limits ++ rs)
  unfolding load_refusal first_row
  load_row rs = load-then _ _ _ _ _ _ (first_row rs)

  pub load-lowest : IsLowest (load_rows sizes codes floats limits) (load_refusal sizes codes floats limits)
  unfolding up_from
  load-lowest = lowest-row _ _ refl (alone _ _ (load_row []))

-- ---- sizing, alone and before the byte call's own row
module _ (sizes codes : List ℕ) (floats : List Float) where
  pub sizing-row : (rs : List Row) → first_of (sizing_refusal sizes codes floats) (first_row rs) ≡ first_row (sizing_rows sizes codes floats ++ rs)
  unfolding sizing_refusal first_row
  sizing-row rs = load-then _ _ _ _ false _ (first_row rs)

  pub sizing-lowest : IsLowest (sizing_rows sizes codes floats) (sizing_refusal sizes codes floats)
  unfolding up_from
  sizing-lowest = lowest-row _ _ refl (alone _ _ (sizing-row []))

-- ---- setting weights, which asks nothing else
pub weights-lowest : (ws : List Float) → IsLowest (weights_row ws ∷ []) (weights_refusal ws)
unfolding up_from
weights-lowest ws = lowest-row _ _ refl (alone _ _ (weights-row ws []))
