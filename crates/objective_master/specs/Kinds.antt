-- The list of objectives that is picked, by the numbers of their kinds, as `relaxed_ik` writes it.
use Rattle.std.specs.Prelude.{◌≡◌, refl, Bool, true, false, length}
use Rattle.std.proofs.Math.Path.{sym, ap}
use Rattle.std.proofs.Common.{◌∙◌, arith, length-append}
use mathlib.Core.List.{List, [], ◌∷◌, ◌++◌, map, append_assoc}
use Prim.Native.Nat.{ℕ, zero, suc, ◌+◌, ◌-◌, ◌*◌, ◌≤◌}
use Rattle.std.proofs.lemmas.List.{length-map}
use Rattle.lists.specs.Splice.{splice, splice-splice}
use Rattle.lists.specs.Runs.{runs, length_runs, runs-ext}
use Rattle.sheet.specs.Chain.{total, joints}
use Rattle.task.specs.declared.picks.Picks.{Picks}
use Rattle.self_collision.specs.Pairs.{Pair, all_pairs, first_arm, chain_lengths, lengths-count}
use Rattle.objective_master.specs.Objective.{goal_width, goal_objectives, motion_objectives, pair_objective, picked_list, objectives, objective_count, sections, count}
use Rattle.objective_master.specs.Weights.{kind_number}
use Rattle.objective_master.specs.Losses.{lengths-total}

-- of a sheet
abbrev pub kinds_of : Picks → List ℕ → List ℕ → List ℕ
kinds_of p ns cs = map kind_number (objectives (picked_list p) (chain_lengths ns cs))

-- of a chain's goal, strict or with tolerances
unfoldable pub goal_kinds : Bool → List ℕ
goal_kinds true = 0 ∷ 1 ∷ []
goal_kinds false = 0 ∷ 0 ∷ 0 ∷ 1 ∷ 1 ∷ 1 ∷ []

-- of all joints, and one kind alone
unfoldable pub motion_kinds : List ℕ
motion_kinds = 3 ∷ 4 ∷ 5 ∷ 6 ∷ []

unfoldable pub only_kind : ℕ → ℕ → List ℕ
only_kind k i = k ∷ []

-- ---- laws
pub goal-kinds : (strict : Bool) → length (goal_kinds strict) ≡ goal_width strict
unfolding goal_kinds goal_width
goal-kinds true = refl
goal-kinds false = refl

kinds-of-goal : (strict : Bool) (c : ℕ) → map kind_number (goal_objectives strict c) ≡ goal_kinds strict
unfolding goal_objectives kind_number goal_kinds
kinds-of-goal true c = refl
kinds-of-goal false c = refl

pub motion-kinds : length motion_kinds ≡ 4
unfolding motion_kinds
motion-kinds = refl

pub one-kind : (k i : ℕ) → length (only_kind k i) ≡ 1
unfolding only_kind
one-kind k i = refl

pub kinds-length : (p : Picks) (ns cs : List ℕ) → length (kinds_of p ns cs) ≡ objective_count p ns cs
kinds-length p ns cs = length-map (objectives (picked_list p) (chain_lengths ns cs)) kind_number

-- a kind for each pair
pair-kinds : (ps : List Pair) → map (λ p. kind_number (pair_objective p)) ps ≡ runs (only_kind 7) 0 (length ps)
unfolding pair_objective kind_number runs only_kind
pair-kinds ps = go ps ∙ sym (same (length ps))
  where
    sevens : ℕ → List ℕ
    sevens zero = []
    sevens (suc n) = 7 ∷ sevens n

    go : (ps : List Pair) → map (λ p. kind_number (pair_objective p)) ps ≡ sevens (length ps)
    go [] = refl
    go (p ∷ ps) = ap (λ (l : List ℕ). 7 ∷ l) (go ps)

    last : (n : ℕ) → sevens n ++ (7 ∷ []) ≡ 7 ∷ sevens n
    last zero = refl
    last (suc n) = ap (λ (l : List ℕ). 7 ∷ l) (last n)

    same : (n : ℕ) → runs (only_kind 7) 0 n ≡ sevens n
    same zero = refl
    same (suc n) = ap (λ (l : List ℕ). l ++ (7 ∷ [])) (same n) ∙ last n

-- a list that ends where the next starts
joined : (xs cur new ys zs : List ℕ) (k : ℕ) → cur ≡ splice xs 0 ys → new ≡ splice cur k zs → k ≡ length ys → length ys ≤ length xs → new ≡ splice xs 0 (ys ++ zs)
joined xs cur new ys zs k e₁ e₂ e₃ h =
    e₂ ∙ ap (λ (c : List ℕ). splice c k zs) e₁ ∙ splice-splice xs 0 k ys zs (omega arith) (omega arith)

module _ (p : Picks) (ns cs : List ℕ) (whole : total ns ≡ length cs) where
  abbrev lens : List ℕ
  lens = chain_lengths ns cs

  abbrev width : ℕ
  width = goal_width p.strict

  abbrev goals : List ℕ
  goals = runs (λ _. goal_kinds p.strict) 0 (length ns)

  abbrev limits : List ℕ
  limits = runs (only_kind 2) 0 (joints cs)

  pub kinds-count : length (objectives (picked_list p) lens) ≡ length ns * width + joints cs + 4 + length (all_pairs first_arm lens)
  kinds-count = omega (arith, count (picked_list p) lens, ap (λ (n : ℕ). n * width) (lengths-count ns cs), lengths-total ns cs whole)

  kinds-are : kinds_of p ns cs ≡ ((goals ++ limits) ++ motion_kinds) ++ runs (only_kind 7) 0 (length (all_pairs first_arm lens))
  unfolding kind_number motion_objectives motion_kinds only_kind
  kinds-are =
      let pairs : List ℕ = runs (only_kind 7) 0 (length (all_pairs first_arm lens)) in
      let by : ℕ → ℕ → List ℕ → List ℕ = λ c j r. runs (λ _. goal_kinds p.strict) 0 c ++ (runs (only_kind 2) 0 j ++ (motion_kinds ++ r)) in
      sections kind_number (picked_list p) lens
      ∙ ap (λ (l : List ℕ). l ++ (runs (only_kind 2) 0 (total lens) ++ (motion_kinds ++ map (λ q. kind_number (pair_objective q)) (all_pairs first_arm lens))))
      (runs-ext (λ c. map kind_number (goal_objectives p.strict c)) (λ _. goal_kinds p.strict) 0 (length lens) (λ i h. kinds-of-goal p.strict (0 + i)))
      ∙ ap (by (length lens) (total lens)) (pair-kinds (all_pairs first_arm lens))
      ∙ ap (λ (c : ℕ). by c (total lens) pairs) (lengths-count ns cs)
      ∙ ap (λ (j : ℕ). by (length ns) j pairs) (lengths-total ns cs whole)
      ∙ sym (append_assoc (goals ++ limits) motion_kinds pairs ∙ append_assoc goals limits (motion_kinds ++ pairs))

  goals-long : length goals ≡ length ns * width
  goals-long = length_runs (λ _. goal_kinds p.strict) width (λ _. goal-kinds p.strict) 0 (length ns) ∙ omega arith

  limits-long : length (goals ++ limits) ≡ length ns * width + joints cs
  limits-long = length-append goals limits ∙ omega (arith, goals-long, length_runs (only_kind 2) 1 (one-kind 2) 0 (joints cs))

  motion-long : length ((goals ++ limits) ++ motion_kinds) ≡ length ns * width + joints cs + 4
  motion-long = length-append (goals ++ limits) motion_kinds ∙ omega (arith, limits-long, motion-kinds)

  -- section after section, the whole list
  pub kinds-made : (o₀ o₁ o₂ o₃ o₄ : List ℕ) (n k j : ℕ) → n ≡ length (objectives (picked_list p) lens) → n ≤ length o₀ → j ≡ joints cs → k ≡ length ns * width
      → o₁ ≡ splice o₀ 0 goals → o₂ ≡ splice o₁ k (runs (only_kind 2) 0 j) → o₃ ≡ splice o₂ (k + j) motion_kinds
      → o₄ ≡ splice o₃ (k + j + 4) (runs (only_kind 7) 0 (n - (k + j + 4))) → o₄ ≡ splice o₀ 0 (kinds_of p ns cs)
  kinds-made o₀ o₁ o₂ o₃ o₄ n k j en room ej ek e₁ e₂ e₃ e₄ =
      let m : n - (k + j + 4) ≡ length (all_pairs first_arm lens) = omega (arith, kinds-count) in
      let f₂ : o₂ ≡ splice o₁ k limits = e₂ ∙ ap (λ (i : ℕ). splice o₁ k (runs (only_kind 2) 0 i)) ej in
      let f₄ : o₄ ≡ splice o₃ (k + j + 4) (runs (only_kind 7) 0 (length (all_pairs first_arm lens))) = e₄ ∙ ap (λ (i : ℕ). splice o₃ (k + j + 4) (runs (only_kind 7) 0 i)) m in
      let g₂ : o₂ ≡ splice o₀ 0 (goals ++ limits) = joined o₀ o₁ o₂ goals limits k e₁ f₂ (omega (arith, goals-long)) (omega (arith, goals-long, kinds-count)) in
      let g₃ : o₃ ≡ splice o₀ 0 ((goals ++ limits) ++ motion_kinds) = joined o₀ o₂ o₃ (goals ++ limits) motion_kinds (k + j) g₂ e₃ (omega (arith, limits-long)) (omega (arith, limits-long, kinds-count)) in
      joined o₀ o₃ o₄ ((goals ++ limits) ++ motion_kinds) (runs (only_kind 7) 0 (length (all_pairs first_arm lens))) (k + j + 4) g₃ f₄ (omega (arith, motion-long)) (omega (arith, motion-long, kinds-count))
      ∙ ap (splice o₀ 0) (sym kinds-are)
