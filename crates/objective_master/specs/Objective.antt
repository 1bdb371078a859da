-- The two lists of objectives: that of the source's `relaxed_ik`, and the strict one, for goals without tolerance. The joints of each chain are given, as in the Rust.
use Rattle.std.specs.Prelude.{◌≡◌, refl, Bool, true, false, ℕ, suc, ◌+◌, ◌*◌, ◌≤◌, ◌<◌, length, get_or}
use Rattle.std.proofs.Common.{sym, ap, ◌∙◌, zero-add, suc-mul, mul-le-mul_right, arith, length-append}
use mathlib.Core.List.{List, [], ◌∷◌, ◌++◌, map, map-append}
use Rattle.std.proofs.lemmas.List.{length-map}
use Rattle.std.proofs.Math.ListN.{get_or-append}
use Rattle.std.proofs.Math.Seq.{get_or-append-add}
use Rattle.lists.specs.Runs.{runs, length_runs, get_or-runs}
use Rattle.sheet.specs.Chain.{total}
use Rattle.task.specs.declared.picks.Picks.{Picks}
use Rattle.self_collision.specs.Pairs.{Pair, all_pairs, first_arm, chain_lengths, map_runs}

-- an objective: of a chain and an axis, of a chain, of a joint, of all joints, or of an arm and two links
pub data Objective : Type 0 where
  MatchEEPosiDoF : ℕ → ℕ → Objective
  MatchEERotaDoF : ℕ → ℕ → Objective
  MatchEEPosGoals : ℕ → Objective
  MatchEEQuatGoals : ℕ → Objective
  EachJointLimits : ℕ → Objective
  MinimizeVelocity : Objective
  MinimizeAcceleration : Objective
  MinimizeJerk : Objective
  MaximizeManipulability : Objective
  SelfCollision : ℕ → ℕ → ℕ → Objective

-- how many a chain's goal has: strict, or with tolerances
unfoldable pub goal_width : Bool → ℕ
goal_width true = 2
goal_width false = 6

-- those of chain c's goal: its position and its rotation, each as a whole or along three axes
unfoldable pub goal_objectives : Bool → ℕ → List Objective
goal_objectives true c = MatchEEPosGoals c ∷ MatchEEQuatGoals c ∷ []
goal_objectives false c =
    MatchEEPosiDoF c 0 ∷ MatchEEPosiDoF c 1 ∷ MatchEEPosiDoF c 2 ∷ MatchEERotaDoF c 0 ∷ MatchEERotaDoF c 1 ∷ MatchEERotaDoF c 2 ∷ []

pub goal-count : (strict : Bool) (c : ℕ) → length (goal_objectives strict c) ≡ goal_width strict
unfolding goal_width goal_objectives
goal-count true c = refl
goal-count false c = refl

-- the one of joint j's limits
unfoldable pub limit_objective : ℕ → List Objective
limit_objective j = EachJointLimits j ∷ []

-- the four of all joints
unfoldable pub motion_objectives : List Objective
motion_objectives = MinimizeVelocity ∷ MinimizeAcceleration ∷ MinimizeJerk ∷ MaximizeManipulability ∷ []

-- that of a pair, on its arm
unfoldable pub pair_objective : Pair → Objective
pair_objective p = SelfCollision p.arm p.first p.second

-- What tells a list from another: the objectives of a chain's goal, the same number of them for each chain, and the arm that a chain's pairs look at.
pub record ObjectiveList : Type 0 where
  pub goals : ℕ → List Objective
  pub width : ℕ
  pub wide : (c : ℕ) → length (goals c) ≡ width
  pub arms : ℕ → ℕ

-- the list that the caller picked: the strict one, or the source's own, with `lite` false
abbrev pub picked_list : Picks → ObjectiveList
picked_list p = record { goals = goal_objectives p.strict; width = goal_width p.strict; wide = goal-count p.strict; arms = first_arm }

-- all, for chains of these joints
unfoldable pub objectives : ObjectiveList → List ℕ → List Objective
objectives list lens =
    runs list.goals 0 (length lens) ++ (runs limit_objective 0 (total lens) ++ (motion_objectives ++ map pair_objective (all_pairs list.arms lens)))

-- how many objectives a sheet has, of ns links per chain and codes cs
abbrev pub objective_count : Picks → List ℕ → List ℕ → ℕ
objective_count p ns cs = length (objectives (picked_list p) (chain_lengths ns cs))

-- ---- laws
map-map : {A B C : Type 0} (h : A → B) (f : C → A) (xs : List C) → map h (map f xs) ≡ map (λ c. h (f c)) xs
map-map h f [] = refl
map-map {A} {B} h f (x ∷ xs) = ap (λ (l : List B). h (f x) ∷ l) (map-map h f xs)

-- ---- how many there are
pub limit-count : (j : ℕ) → length (limit_objective j) ≡ 1
unfolding limit_objective
limit-count j = refl

pub count : (list : ObjectiveList) (lens : List ℕ) → length (objectives list lens) ≡ length lens * list.width + (total lens + (4 + length (all_pairs list.arms lens)))
unfolding objectives motion_objectives
count list lens =
    let r : List Objective = map pair_objective (all_pairs list.arms lens) in
    length-append (runs list.goals 0 (length lens)) (runs limit_objective 0 (total lens) ++ (motion_objectives ++ r))
    ∙ omega (
      arith,
      length-append (runs limit_objective 0 (total lens)) (motion_objectives ++ r),
      length_runs list.goals list.width list.wide 0 (length lens),
      length_runs limit_objective 1 limit-count 0 (total lens),
      length-map (all_pairs list.arms lens) pair_objective,
    )

-- ---- a property h of the objectives, by their places
module _ {B : Type 0} (h : Objective → B) (list : ObjectiveList) (lens : List ℕ) where
  abbrev goals : List B
  goals = runs (λ c. map h (list.goals c)) 0 (length lens)

  abbrev limits : List B
  limits = runs (λ j. h (EachJointLimits j) ∷ []) 0 (total lens)

  abbrev pairs : List B
  pairs = map (λ p. h (pair_objective p)) (all_pairs list.arms lens)

  -- the four sections
  pub sections : map h (objectives list lens) ≡ goals ++ (limits ++ (map h motion_objectives ++ pairs))
  unfolding objectives limit_objective
  sections =
      let gs : List Objective = runs list.goals 0 (length lens) in
      let ls : List Objective = runs limit_objective 0 (total lens) in
      let ps : List Objective = map pair_objective (all_pairs list.arms lens) in
      map-append h gs (ls ++ (motion_objectives ++ ps))
      ∙ rw (
        map-append h ls (motion_objectives ++ ps),
        map-append h motion_objectives ps,
        map_runs h list.goals 0 (length lens),
        map_runs h limit_objective 0 (total lens),
        map-map h pair_objective (all_pairs list.arms lens),
      )

  goal-wide : (c : ℕ) → length (map h (list.goals c)) ≡ list.width
  goal-wide c = length-map (list.goals c) h ∙ list.wide c

  goals-length : length goals ≡ length lens * list.width
  goals-length = length_runs (λ c. map h (list.goals c)) list.width goal-wide 0 (length lens)

  limits-length : length limits ≡ total lens
  limits-length = length_runs (λ j. h (EachJointLimits j) ∷ []) 1 (λ j. refl) 0 (total lens) ∙ omega arith

  pub at-goal : (c r : ℕ) (d : B) → c < length lens → r < list.width → get_or (map h (objectives list lens)) (c * list.width + r) d ≡ get_or (map h (list.goals c)) r d
  at-goal c r d a b =
      let w : ℕ = list.width in
      let m : suc c * w ≤ length lens * w = mul-le-mul_right w a in
      ap (λ (l : List B). get_or l (c * w + r) d) sections
      ∙ get_or-append goals _ d (c * w + r) (omega (arith, goals-length, suc-mul c w))
      ∙ get_or-runs (λ c. map h (list.goals c)) w goal-wide 0 (length lens) c r d a b
      ∙ ap (λ (k : ℕ). get_or (map h (list.goals k)) r d) (zero-add c)

  pub at-limit : (j : ℕ) (d : B) → j < total lens → get_or (map h (objectives list lens)) (length lens * list.width + j) d ≡ h (EachJointLimits j)
  at-limit j d a =
      let more : List B = map h motion_objectives ++ pairs in
      let z : j * 1 + 0 ≡ j = omega arith in
      ap (λ (l : List B). get_or l (length lens * list.width + j) d) sections
      ∙ ap (λ (k : ℕ). get_or (goals ++ (limits ++ more)) (k + j) d) (sym goals-length)
      ∙ get_or-append-add goals (limits ++ more) j d
      ∙ get_or-append limits more d j (omega (arith, limits-length))
      ∙ ap (λ (k : ℕ). get_or limits k d) (sym z)
      ∙ get_or-runs (λ j. h (EachJointLimits j) ∷ []) 1 (λ j. refl) 0 (total lens) j 0 d a (omega arith)
      ∙ ap (λ (k : ℕ). h (EachJointLimits k)) (zero-add j)

  -- past the limits
  past : (i : ℕ) (d : B) → get_or (map h (objectives list lens)) (length lens * list.width + (total lens + i)) d ≡ get_or (map h motion_objectives ++ pairs) i d
  past i d =
      let more : List B = map h motion_objectives ++ pairs in
      ap (λ (l : List B). get_or l (length lens * list.width + (total lens + i)) d) sections
      ∙ ap (λ (k : ℕ). get_or (goals ++ (limits ++ more)) (k + (total lens + i)) d) (sym goals-length)
      ∙ get_or-append-add goals (limits ++ more) (total lens + i) d
      ∙ ap (λ (k : ℕ). get_or (limits ++ more) (k + i) d) (sym limits-length)
      ∙ get_or-append-add limits more i d

  pub at_pair : (i : ℕ) (d : B) → get_or (map h (objectives list lens)) (length lens * list.width + (total lens + (4 + i))) d ≡ get_or pairs i d
  unfolding motion_objectives
  at_pair i d = past (4 + i) d ∙ get_or-append-add (map h motion_objectives) pairs i d
