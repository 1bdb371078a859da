-- Slopes by lists of losses.
use Rattle.std.specs.Prelude.{◌≡◌, List, ℕ, ◌+◌, ◌≤◌, Float, length, get_or}
use Rattle.std.proofs.Common.{sym, ap, ◌∙◌, arith}
use Rattle.std.specs.Float.{nan, binary64}
use Rattle.std.specs.Float.Ieee.{neg, of_bits}
use Rattle.standins.specs.Num.{◌⊕◌, ◌⊘◌}
use Rattle.lists.specs.Splice.{splice, get_or-splice-in, get_or-splice-after}
use Rattle.lists.specs.Listed.{listed, length-listed}
use Rattle.objective_master.specs.Weights.{weighted_by, weighted-same}
use Rattle.gradient.specs.declared.slopes.Rule.{Rule}
use Rattle.gradient.specs.declared.slopes.Rule.TheVariants.{EachLoss, WeightedSum}

-- `gradient` raises a joint by 1e-7
abbrev pub step : Float
step = of_bits binary64 0x3e7a_d7f2_9abc_af48

-- `gradient_finite_diff` by 1e-6
abbrev pub finite_step : Float
finite_step = of_bits binary64 0x3eb0_c6f7_a0b5_ed8d

unfoldable pub step_of : Rule → Float
step_of EachLoss = step
step_of WeightedSum = finite_step

-- number i of the slopes between two lists of losses
unfoldable pub slope_between : List Float → List Float → ℕ → Float
slope_between fs hs i = (neg (get_or fs i nan) ⊕ get_or hs i nan) ⊘ step

-- the slope from losses fs, whose weighted sum is f, to losses hs: the slopes of all losses weighted and added, or that of the weighted sum
unfoldable pub slope_by : Rule → List Float → List ℕ → Float → List Float → List Float → Float
slope_by EachLoss ws ks f fs hs = weighted_by ws ks (listed (slope_between fs hs) (length ks))
slope_by WeightedSum ws ks f fs hs = (neg f ⊕ weighted_by ws ks hs) ⊘ finite_step

-- ---- law: while slopes take the places of losses, the losses that are left stand
pub loss-left : (f : ℕ → Float) (hs cur : List Float) (i : ℕ) → i ≤ length hs → cur ≡ splice hs 0 (listed f i) → get_or cur i nan ≡ get_or hs i nan
loss-left f hs cur i h e =
    let n : length (listed f i) ≡ i = length-listed f i in
    let z : i ≡ 0 + length (listed f i) + 0 = omega arith in
    ap (λ (l : List Float). get_or l i nan) e
    ∙ ap (λ (k : ℕ). get_or (splice hs 0 (listed f i)) k nan) z
    ∙ get_or-splice-after hs 0 (listed f i) 0 nan (omega arith)
    ∙ ap (λ (k : ℕ). get_or hs k nan) (sym z)

pub slope-made : (fs hs cur : List Float) (i : ℕ) → get_or cur i nan ≡ get_or hs i nan → (neg (get_or fs i nan) ⊕ get_or cur i nan) ⊘ step ≡ slope_between fs hs i
unfolding slope_between
slope-made fs hs cur i e = ap (λ (v : Float). (neg (get_or fs i nan) ⊕ v) ⊘ step) e

-- and the slopes are what is then added up
pub slopes-sum : (ws : List Float) (ks : List ℕ) (f : ℕ → Float) (hs cur : List Float) → length ks ≤ length hs → cur ≡ splice hs 0 (listed f (length ks))
    → weighted_by ws ks cur ≡ weighted_by ws ks (listed f (length ks))
slopes-sum ws ks f hs cur h e =
    weighted-same ws ks cur (listed f (length ks))
    (λ i l.
    let z : 0 + i ≡ i = omega arith in
    ap (λ (c : List Float). get_or c i nan) e ∙ ap (λ (k : ℕ). get_or (splice hs 0 (listed f (length ks))) k nan) (sym z)
    ∙ get_or-splice-in hs 0 (listed f (length ks)) i nan (omega arith) (omega (arith, length-listed f (length ks))))
