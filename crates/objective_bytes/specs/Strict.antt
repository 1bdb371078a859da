-- The pick of a byte call: 0 answers by the source's own list, as it was before there was a pick, any other number by the strict one; and the gradients agree under either.
use Rattle.std.specs.Prelude.{◌≡◌, List, ℕ, Float}
use Rattle.std.proofs.Common.{sym, ◌∙◌}
use Rattle.lists.specs.Splice.{splice}
use Rattle.refusals.specs.Refusal.{links_of}
use Rattle.self_collision.specs.Pairs.{chain_lengths}
use Rattle.objective_master.specs.Objective.{Objective}
use Rattle.objective_master.specs.Losses.{objectives_of}
use Rattle.calls.specs.Arms.{if_taken, taken}
use Rattle.calls.specs.Strict.{source_objectives, strict_objectives, value_by, slopes_by, finite_diff_by, not-picked, picked, value-by, slopes-by, finite-diff-by}
use Rattle.lent_bytes.specs.Lent.{bytes_of}
use Rattle.lent_bytes.specs.SheetLists.{SheetLists}
use Rattle.lent_bytes.specs.Picks.{picks_from, nought-tolerance, other-strict}
use Rattle.objective_bytes.specs.ObjectiveCalls.{TaskLists, given_lent, value_in, objective_value, slopes_in, gradient_slopes, finite_diff_slopes}

-- the joints of each chain of a sheet
abbrev pub joints_in : SheetLists → List ℕ
joints_in s = chain_lengths (links_of s.sizes) s.codes

-- with number n, the calls answer by list os; the one-block gradient's slopes are the gradient's
pub record AnsweredBy (os : List Objective) (s : SheetLists) (t : TaskLists) (n : ℕ) : Type 0 where
  pub value : (x : List Float) → value_in s t (picks_from n) x ≡ value_by os (given_lent s t (picks_from n)) s.floats x
  pub slopes : (x : List Float) → gradient_slopes s t (picks_from n) x ≡ slopes_by os (given_lent s t (picks_from n)) s.floats x
  pub finite-diff-slopes : (x : List Float) → finite_diff_slopes s t (picks_from n) x ≡ finite_diff_by os (given_lent s t (picks_from n)) s.floats x

answered-by : (os : List Objective) (s : SheetLists) (t : TaskLists) (n : ℕ) → objectives_of (given_lent s t (picks_from n)) ≡ os → AnsweredBy os s t n
unfolding value_in slopes_in
answered-by os s t n list =
    record {
      value = value-by (given_lent s t (picks_from n)) os list s.floats;
      slopes = slopes-by (given_lent s t (picks_from n)) os list s.floats;
      finite-diff-slopes = finite-diff-by (given_lent s t (picks_from n)) os list s.floats;
    }

-- ---- theorems
pub nought-answers : (s : SheetLists) (t : TaskLists) → AnsweredBy (source_objectives (joints_in s)) s t 0
unfolding given_lent
nought-answers s t = answered-by _ s t 0 (not-picked (given_lent s t (picks_from 0)) nought-tolerance)

pub other-answers : (s : SheetLists) (t : TaskLists) (n : ℕ) → (n ≡ 0 → ⊥) → AnsweredBy (strict_objectives (joints_in s)) s t n
unfolding given_lent
other-answers s t n h = answered-by _ s t n (picked (given_lent s t (picks_from n)) (other-strict n h))

-- ---- theorems: of the same lists, pick and joints the gradients on two blocks and on one, where they are accepted, write the definition's bytes, and so the same
-- what both promise with number r: the lists for value and slopes, which held v and l, hold v' and l'
pub record GradientWrites (s : SheetLists) (t : TaskLists) (n : ℕ) (x : List Float) (v l : List ℕ) (r : ℕ) (v' l' : List ℕ) : Type 0 where
  pub value : v' ≡ if_taken r v (splice v 0 (bytes_of (objective_value s t (picks_from n) x)))
  pub slopes : l' ≡ if_taken r l (splice l 0 (bytes_of (gradient_slopes s t (picks_from n) x)))

module _ (s : SheetLists) (t : TaskLists) (n : ℕ) (x : List Float) (v l : List ℕ) where
  pub gradient-bytes-defined : (r : ℕ) (v' l' : List ℕ) → GradientWrites s t n x v l r v' l' → r ≡ 0
      → (v' ≡ splice v 0 (bytes_of (objective_value s t (picks_from n) x))) × (l' ≡ splice l 0 (bytes_of (gradient_slopes s t (picks_from n) x)))
  gradient-bytes-defined r v' l' w e = (w.value ∙ taken r v _ e, w.slopes ∙ taken r l _ e)

  pub gradient-bytes-agree : (r q : ℕ) (v₁ v₂ l₁ l₂ : List ℕ) → GradientWrites s t n x v l r v₁ l₁ → GradientWrites s t n x v l q v₂ l₂ → r ≡ 0 → q ≡ 0
      → (v₁ ≡ v₂) × (l₁ ≡ l₂)
  gradient-bytes-agree r q v₁ v₂ l₁ l₂ a b e f =
      let one = gradient-bytes-defined r v₁ l₁ a e in
      let two = gradient-bytes-defined q v₂ l₂ b f in
      (one.0 ∙ sym two.0, one.1 ∙ sym two.1)
