-- What the tests of `in_use` tell of a stored sheet.
use mathlib.Core.Path.{◌≡◌, sym, ap, ◌∙◌}
use mathlib.Core.Bool.{true, false}
use mathlib.Core.List.{List}
use Prim.Native.Nat.{ℕ, ◌+◌, ◌-◌, ◌*◌, ◌<◌, ◌≤◌}
use native.Mathlib.Omega.{arith}
use borrow.Author.Tests.{eq-eqb, ne_eqb, lt-ltb, le-ltb}
use lib.ListN.{take, drop, get_or}
use Rattle.sheet.specs.Chain.{total}
use Rattle.refusals.specs.Refusal.{shape_refusal}
use Rattle.state_calls.specs.State.{sizes_used, links_used, codes_used, have_sheet}

module _ (ss cs : List ℕ) where
  pub many-chains : 4 < get_or ss 0 0 → have_sheet ss cs ≡ false
  unfolding have_sheet
  many-chains h = rw (lt-ltb 4 _ h)

  -- n, the links of the first chains
  module _ (n : ℕ) (few : get_or ss 0 0 ≤ 4) (sum : n ≡ total (take (get_or ss 0 0 + 1 - 1) (drop 1 ss))) where
    pub links : n ≡ total (links_used ss)
    unfolding links_used
    links = let e : get_or ss 0 0 + 1 - 1 ≡ get_or ss 0 0 = omega arith in sum ∙ ap (λ (k : ℕ). total (take k (drop 1 ss))) e

    pub many-links : 64 < n → have_sheet ss cs ≡ false
    unfolding have_sheet
    many-links h = rw (le-ltb 4 _ few, lt-ltb 64 (total (links_used ss)) (omega (arith, links, h)))

    -- m, the shape's number
    module _ (m : ℕ) (most : n ≤ 64) (number : m ≡ shape_refusal (take (get_or ss 0 0 + 1) ss) (take n cs) (7 * n)) where
      shape : m ≡ shape_refusal (sizes_used ss) (codes_used ss cs) (7 * total (links_used ss))
      unfolding sizes_used codes_used
      shape = number ∙ ap (λ (k : ℕ). shape_refusal (take (get_or ss 0 0 + 1) ss) (take k cs) (7 * k)) links

      pub shape-refused : (m ≡ 0 → ⊥) → have_sheet ss cs ≡ false
      unfolding have_sheet
      shape-refused h = rw (le-ltb 4 _ few, le-ltb 64 (total (links_used ss)) (omega (arith, links, most)), ne_eqb _ 0 (λ z. h (shape ∙ z)))

      pub shape-taken : m ≡ 0 → have_sheet ss cs ≡ true
      unfolding have_sheet
      shape-taken h = rw (le-ltb 4 _ few, le-ltb 64 (total (links_used ss)) (omega (arith, links, most)), eq-eqb _ 0 (sym shape ∙ h))
