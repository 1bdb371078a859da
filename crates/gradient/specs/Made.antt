-- What the steps of the gradients make.
use Rattle.std.specs.Prelude.{◌≡◌, refl, List, ◌++◌, map, ℕ, ◌≤◌, ◌<◌, Float, length, get_or, set, take, drop}
use Rattle.std.proofs.Common.{sym, ◌∙◌, arith, length-set, take-append-drop, ext_get_or, get_or-take, set-set}
use Rattle.std.proofs.Math.Path.{ap}
use Rattle.std.specs.Float.{nan}
use Rattle.std.specs.Float.Ieee.{neg}
use Rattle.std.proofs.lemmas.List.{length-map, set-get_or}
use Rattle.standins.specs.Num.{◌⊕◌, ◌⊘◌}
use Rattle.lists.specs.Splice.{splice, part-splice, length-splice}
use Rattle.lists.specs.Listed.{listed, length-listed, get_or-listed}
use Rattle.task.specs.Task.{Given}
use Rattle.objective_master.specs.Objective.{Objective, MinimizeVelocity}
use Rattle.objective_master.specs.Losses.{loss_of, losses_of, objectives_of, losses-many}
use Rattle.objective_master.specs.Weights.{kind_number, weighted_of, weighted_by, weighted-kinds, weighted-front}
use Rattle.objective_master.specs.Cached.{map_at}
use Rattle.objective_master.specs.Call.{objective_of}
use Rattle.gradient.specs.declared.slopes.Rule.{Rule}
use Rattle.gradient.specs.declared.slopes.Rule.TheVariants.{EachLoss, WeightedSum}
use Rattle.gradient.specs.Slopes.{step, finite_step, step_of, slope_between, slope_by}
use Rattle.gradient.specs.Gradient.{raised_by, poses_of, losses_at, value_at, slope_of, gradient_at, finite_diff_at, slope_at}

-- ---- a joint raised, and its old value put back
pub raised-length : (h : Float) (x : List Float) (j : ℕ) → length (raised_by h x j) ≡ length x
unfolding raised_by
raised-length h x j = length-set x j (get_or x j nan ⊕ h)

pub put_back : (h : Float) (x : List Float) (j : ℕ) → set (raised_by h x j) j (get_or x j nan) ≡ x
unfolding raised_by
put_back h x j = set-set x j (get_or x j nan ⊕ h) (get_or x j nan) ∙ set-get_or x j nan

-- ---- from losses to slopes
losses-at : (fs : List Float) (n : ℕ) (a : Objective → Float) (os : List Objective) (i : ℕ) → take n fs ≡ map a os → i < n → i < length os
    → get_or fs i nan ≡ a (get_or os i MinimizeVelocity)
losses-at fs n a os i e h l = sym (get_or-take n fs i nan h) ∙ ap (λ (v : List Float). get_or v i nan) e ∙ map_at a os i MinimizeVelocity nan l

slopes-are : (a b : Objective → Float) (os : List Objective) (fs hs : List Float) (n : ℕ) → n ≡ length os → take n fs ≡ map a os → take n hs ≡ map b os
    → listed (slope_between fs hs) n ≡ map (λ o. (neg (a o) ⊕ b o) ⊘ step) os
unfolding slope_between
slopes-are a b os fs hs n e ea eb =
    let s : Objective → Float = λ o. (neg (a o) ⊕ b o) ⊘ step in
    let l : length (listed (slope_between fs hs) n) ≡ n = length-listed (slope_between fs hs) n in
    ext_get_or nan (listed (slope_between fs hs) n) (map s os) (l ∙ e ∙ sym (length-map os s))
    (λ i h.
    let k : i < n = omega arith in
    let ka = losses-at fs n a os i ea k (omega arith) in
    let kb = losses-at hs n b os i eb k (omega arith) in
    get_or-listed (slope_between fs hs) n i nan k ∙ rw (ka, kb) (sym (map_at s os i MinimizeVelocity nan (omega arith))))

-- the losses stand in front of the list they were written to
losses-length : (g : Given) (gs x : List Float) → length (losses_at g gs x) ≡ length (objectives_of g)
unfolding losses_at
losses-length g gs x = losses-many g (poses_of g gs x) x

pub losses-front : (g : Given) (gs x rest out : List Float) (n : ℕ) → n ≡ length (objectives_of g) → out ≡ splice rest 0 (losses_at g gs x) → take n out ≡ losses_at g gs x
losses-front g gs x rest out n e h = ap (take n) h ∙ part-splice rest 0 n (losses_at g gs x) (omega arith) (losses-length g gs x ∙ sym e)

-- ---- sums by the objectives' kinds
module _ (g : Given) (gs x : List Float) (ks : List ℕ) (kinds : ks ≡ map kind_number (objectives_of g)) where
  pub as_many : length ks ≡ length (objectives_of g)
  as_many = ap length kinds ∙ length-map (objectives_of g) kind_number

  by-kinds : (vs : List Float) → length ks ≤ length vs → weighted_by g.weights ks vs ≡ weighted_of g.weights (objectives_of g) vs
  by-kinds vs h = ap (λ (k : List ℕ). weighted_by g.weights k vs) kinds ∙ weighted-kinds g.weights (objectives_of g) vs (omega (arith, as_many))

  -- the value, of losses in front of a list
  pub sum-at : (y hs : List Float) → length ks ≤ length hs → take (length ks) hs ≡ losses_at g gs y → weighted_by g.weights ks hs ≡ value_at g gs y
  unfolding value_at objective_of losses_at
  sum-at y hs h e =
      by-kinds hs h ∙ weighted-front g.weights (objectives_of g) hs
      ∙ ap (λ (n : ℕ). weighted_of g.weights (objectives_of g) (take n hs)) (sym as_many) ∙ ap (weighted_of g.weights (objectives_of g)) e

  pub value_made : (rest out : List Float) → length ks ≤ length rest → out ≡ splice rest 0 (losses_at g gs x) → weighted_by g.weights ks out ≡ value_at g gs x
  value_made rest out h e =
      let l : length out ≡ length rest = ap length e ∙ length-splice rest 0 (losses_at g gs x) (omega (arith, losses-length g gs x, as_many)) in
      sum-at x out (omega arith) (losses-front g gs x rest out (length ks) as_many e)

  -- losses at x in fs, and at a block y in hs: the slopes of all, weighted
  pub weighted-slopes : (y fs hs : List Float) → take (length ks) fs ≡ losses_at g gs x → take (length ks) hs ≡ losses_at g gs y
      → weighted_by g.weights ks (listed (slope_between fs hs) (length ks)) ≡ weighted_of g.weights (objectives_of g) (map (slope_of g gs x y) (objectives_of g))
  unfolding losses_at losses_of slope_of
  weighted-slopes y fs hs ea eb =
      by-kinds (listed (slope_between fs hs) (length ks)) (omega (arith, length-listed (slope_between fs hs) (length ks)))
      ∙ ap (weighted_of g.weights (objectives_of g))
      (slopes-are (loss_of g (poses_of g gs x) x) (loss_of g (poses_of g gs y) y) (objectives_of g) fs hs (length ks) as_many ea eb)

  -- the slope along joint j, under either rule
  pub slope-made : (rule : Rule) (j : ℕ) (f : Float) (fs hs : List Float) → f ≡ value_at g gs x → take (length ks) fs ≡ losses_at g gs x → length ks ≤ length hs
      → take (length ks) hs ≡ losses_at g gs (raised_by (step_of rule) x j) → slope_by rule g.weights ks f fs hs ≡ slope_at rule g gs x j
  unfolding slope_by slope_at step_of gradient_at finite_diff_at
  slope-made EachLoss j f fs hs ef ea h eb = weighted-slopes (raised_by step x j) fs hs ea eb
  slope-made WeightedSum j f fs hs ef ea h eb =
      ap (λ (v : Float). (neg v ⊕ weighted_by g.weights ks hs) ⊘ finite_step) ef
      ∙ ap (λ (v : Float). (neg (value_at g gs x) ⊕ v) ⊘ finite_step) (sum-at (raised_by finite_step x j) hs h eb)

-- ---- a block copied to the front of a list
pub copied-front : (xs ys cur : List Float) → cur ≡ splice xs 0 ys → take (length ys) cur ≡ ys
copied-front xs ys cur e = ap (take (length ys)) e ∙ part-splice xs 0 (length ys) ys (omega arith) refl

pub front_kept : (xs ys cur last : List Float) → cur ≡ splice xs 0 ys → last ≡ take (length ys) cur → last ++ drop (length ys) cur ≡ splice xs 0 ys
front_kept xs ys cur last e h = ap (λ (l : List Float). l ++ drop (length ys) cur) h ∙ take-append-drop (length ys) cur ∙ e
