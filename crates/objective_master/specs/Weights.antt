-- The weighted sum: eight weights, one a kind of objective.
use Rattle.std.specs.Prelude.{◌≡◌, refl, Bool, true, false, cond, List, [], ◌∷◌, map, ℕ, zero, suc, ◌+◌, ◌≤◌, ◌<◌, Float, length, get_or}
use Rattle.std.proofs.Common.{sym, ap, ◌∙◌, add-one, arith}
use Rattle.std.specs.Float.{nan, binary64}
use Rattle.std.specs.Float.Ieee.{of_bits}
use Rattle.std.proofs.Math.ListN.{take}
use Rattle.std.proofs.lemmas.List.{length-map}
use Rattle.standins.specs.Num.{◌⊕◌, ◌⊗◌, nought}
use Rattle.objective_master.specs.Objective.{Objective, MatchEEPosiDoF, MatchEERotaDoF, MatchEEPosGoals, MatchEEQuatGoals, EachJointLimits, MinimizeVelocity, MinimizeAcceleration, MinimizeJerk, MaximizeManipulability, SelfCollision}

-- the number of an objective's kind
unfoldable pub kind_number : Objective → ℕ
kind_number (MatchEEPosiDoF c a) = 0
kind_number (MatchEERotaDoF c a) = 1
kind_number (MatchEEPosGoals c) = 0
kind_number (MatchEEQuatGoals c) = 1
kind_number (EachJointLimits j) = 2
kind_number MinimizeVelocity = 3
kind_number MinimizeAcceleration = 4
kind_number MinimizeJerk = 5
kind_number MaximizeManipulability = 6
kind_number (SelfCollision arm j k) = 7

-- the built-in weights: 50, 10, 0.1, 0.7, 0.5, 0.3, 1, 0.01
unfoldable pub weight_priors : List Float
weight_priors =
    of_bits binary64 0x4049_0000_0000_0000
    ∷ of_bits binary64 0x4024_0000_0000_0000
    ∷ of_bits binary64 0x3fb9_9999_9999_999a
    ∷ of_bits binary64 0x3fe6_6666_6666_6666
    ∷ of_bits binary64 0x3fe0_0000_0000_0000
    ∷ of_bits binary64 0x3fd3_3333_3333_3333
    ∷ of_bits binary64 0x3ff0_0000_0000_0000
    ∷ of_bits binary64 0x3f84_7ae1_47ae_147b
    ∷ []

-- the weights in force: those loaded, the built-in ones where none are
unfoldable pub in_force : Bool → List Float → List Float
in_force loaded ws = cond loaded ws weight_priors

unfoldable pub weight_of : List Float → Objective → Float
weight_of ws o = get_or ws (kind_number o) nan

-- s and then weight times value, one objective after the other, as far as both lists go
unfoldable pub weighted_from : List Float → Float → List Objective → List Float → Float
weighted_from ws s [] vs = s
weighted_from ws s (o ∷ os) [] = s
weighted_from ws s (o ∷ os) (v ∷ vs) = weighted_from ws (s ⊕ weight_of ws o ⊗ v) os vs

-- the weighted sum of the objectives' values
unfoldable pub weighted_of : List Float → List Objective → List Float → Float
weighted_of ws os vs = weighted_from ws nought os vs

-- ---- the sum as code makes it, term after term: s + f 0 + f 1 + .., n terms
unfoldable pub sum_to : (ℕ → Float) → Float → ℕ → Float
sum_to f s zero = s
sum_to f s (suc n) = sum_to f s n ⊕ f n

-- objective i's term, of a list of kinds
unfoldable pub term_at : List Float → List ℕ → List Float → ℕ → Float
term_at ws ks vs i = get_or ws (get_or ks i 0) nan ⊗ get_or vs i nan

-- all terms
unfoldable pub weighted_by : List Float → List ℕ → List Float → Float
weighted_by ws ks vs = sum_to (term_at ws ks vs) nought (length ks)

-- ---- laws
pub weights-eight : length weight_priors ≡ 8
unfolding weight_priors
weights-eight = refl

-- with none loaded the list has no part in it
pub none-in-force : (ws : List Float) → in_force false ws ≡ weight_priors
unfolding in_force
none-in-force ws = refl

pub loaded-in-force : (ws : List Float) → in_force true ws ≡ ws
unfolding in_force
loaded-in-force ws = refl

pub in-force-eight : (loaded : Bool) (ws : List Float) → length ws ≡ 8 → length (in_force loaded ws) ≡ 8
unfolding in_force
in-force-eight true ws e = e
in-force-eight false ws e = weights-eight

pub sum-none : (ws : List Float) (ks : List ℕ) (vs : List Float) → nought ≡ sum_to (term_at ws ks vs) nought 0
unfolding sum_to
sum-none ws ks vs = refl

pub sum_more : (ws : List Float) (ks : List ℕ) (vs : List Float) (i : ℕ) (s w : Float) → s ≡ sum_to (term_at ws ks vs) nought i → w ≡ get_or ws (get_or ks i 0) nan
    → s ⊕ w ⊗ get_or vs i nan ≡ sum_to (term_at ws ks vs) nought (i + 1)
unfolding sum_to term_at
sum_more ws ks vs i s w e h = rw add-one (cc)

pub sum-all : (ws : List Float) (ks : List ℕ) (vs : List Float) (i : ℕ) (s : Float) → s ≡ sum_to (term_at ws ks vs) nought i → i ≡ length ks → s ≡ weighted_by ws ks vs
unfolding weighted_by
sum-all ws ks vs i s e h = e ∙ ap (sum_to (term_at ws ks vs) nought) h

sum-shift : (f : ℕ → Float) (s : Float) (n : ℕ) → sum_to f s (suc n) ≡ sum_to (λ i. f (suc i)) (s ⊕ f 0) n
unfolding sum_to
sum-shift f s zero = refl
sum-shift f s (suc n) = ap (λ (z : Float). z ⊕ f (suc n)) (sum-shift f s n)

-- the objectives' kinds make the objectives' sum; values past the last objective are not read
pub weighted-kinds : (ws : List Float) (os : List Objective) (vs : List Float) → length os ≤ length vs → weighted_by ws (map kind_number os) vs ≡ weighted_of ws os vs
unfolding weighted_by weighted_of weighted_from sum_to term_at weight_of
weighted-kinds ws os vs e = ap (sum_to (term_at ws (map kind_number os) vs) nought) (length-map os kind_number) ∙ sym (go nought os vs e)
  where
    go : (s : Float) (os : List Objective) (vs : List Float) → length os ≤ length vs → weighted_from ws s os vs ≡ sum_to (term_at ws (map kind_number os) vs) s (length os)
    go s [] vs e = refl
    go s (o ∷ os) [] e = absurd (omega arith)
    go s (o ∷ os) (v ∷ vs) e =
        go (s ⊕ weight_of ws o ⊗ v) os vs (omega arith)
        ∙ sym (sum-shift (term_at ws (map kind_number (o ∷ os)) (v ∷ vs)) s (length os))

pub weighted-front : (ws : List Float) (os : List Objective) (vs : List Float) → weighted_of ws os vs ≡ weighted_of ws os (take (length os) vs)
unfolding weighted_of weighted_from take
weighted-front ws os vs = go nought os vs
  where
    go : (s : Float) (os : List Objective) (vs : List Float) → weighted_from ws s os vs ≡ weighted_from ws s os (take (length os) vs)
    go s [] vs = refl
    go s (o ∷ os) [] = refl
    go s (o ∷ os) (v ∷ vs) = go (s ⊕ weight_of ws o ⊗ v) os vs

-- values that agree as far as the kinds go have one sum
pub weighted-same : (ws : List Float) (ks : List ℕ) (vs us : List Float) → ((i : ℕ) → i < length ks → get_or vs i nan ≡ get_or us i nan) → weighted_by ws ks vs ≡ weighted_by ws ks us
unfolding weighted_by sum_to term_at
weighted-same ws ks vs us same = go (length ks) (omega arith)
  where
    go : (n : ℕ) → n ≤ length ks → sum_to (term_at ws ks vs) nought n ≡ sum_to (term_at ws ks us) nought n
    go zero h = refl
    go (suc n) h =
        let i : sum_to (term_at ws ks vs) nought n ≡ sum_to (term_at ws ks us) nought n = go n (omega arith) in
        let e : get_or vs n nan ≡ get_or us n nan = same n (omega arith) in
        cc
