-- Refusal 7 in plain words: as many values as joints, each within the range of its joint; where all joints of a sheet have one range, all within that.
use Rattle.std.specs.Prelude.{◌≡◌, Bool, ◌&&◌, ◌||◌, List, pos, eqb, Float, get_or}
use Rattle.std.proofs.Math.Path.{refl, sym, ap}
use Rattle.std.proofs.Common.{◌∙◌, lit<, eq-eqb}
use Rattle.std.proofs.Math.Bool.{true, false, cond, not}
use Prim.Native.Nat.{ℕ, zero, suc, ◌+◌, ◌*◌, ◌≤◌, ◌<◌}
use Rattle.std.proofs.Math.Nat.{mul-le-mul_right}
use native.Mathlib.Omega.{arith}
use Rattle.std.specs.Float.{nan}
use Rattle.std.specs.Float.Ieee.{of_bits}
use Rattle.std.proofs.Math.ListN.{length}
use Rattle.sheet.specs.declared.code.Kind.{Kind}
use Rattle.sheet.specs.declared.code.Kind.TheVariants.{Fixed, Turning, Sliding, Telescoping, Unlisted}
use Rattle.sheet.specs.Code.{has_joint, kind_of, kind-by-tens, joint-there}
use Rattle.sheet.specs.Chain.{joints_of, joint_of, joints, joints-one, joint-more, joint-mono, joint-last}
use Rattle.refusals.specs.Range.{every, every_more, every-ext, every-join, every-at, every-from, within, within_at, wider}
use Rattle.refusals.specs.Refusal.{eight, sixty_four, joint_range, joint_fits, value_fits, link_value_fits, block_fits, bad_block, history_fits, bad_history, block_refusal, history_refusal}

-- a list of n values, all within -b..b
unfoldable pub plain_refusal : Float → ℕ → List Float → ℕ
plain_refusal b n x = cond (not (eqb (length x) n) || not (every (within_at b x 0) n)) 7 0

-- every joint of the sheet has the range -b..b
abbrev pub OneRange : Float → List ℕ → Type 0
OneRange b cs = (l : ℕ) → has_joint (get_or cs l 0) ≡ true → joint_range (kind_of (get_or cs l 0)) ≡ b

-- ---- laws: the range of each code
module _ (a : ℕ) (h : a ≤ 6) where
  pub revolute-range : joint_range (kind_of (10 + a)) ≡ sixty_four
  unfolding joint_range
  revolute-range = ap joint_range (kind-by-tens 1 a (omega arith) h)

  pub continuous-range : joint_range (kind_of (20 + a)) ≡ sixty_four
  unfolding joint_range
  continuous-range = ap joint_range (kind-by-tens 2 a (omega arith) h)

  pub prismatic-range : joint_range (kind_of (30 + a)) ≡ eight
  unfolding joint_range
  prismatic-range = ap joint_range (kind-by-tens 3 a (omega arith) h)

  pub telescoping-range : joint_range (kind_of (40 + a)) ≡ eight
  unfolding joint_range
  telescoping-range = ap joint_range (kind-by-tens 4 a (omega arith) h)

-- what is within -8..8 is within the range of every kind
pub eight_fits : (k : Kind) (v : Float) → within eight v ≡ true → within (joint_range k) v ≡ true
unfolding joint_range of_bits
eight_fits Fixed v h = h
eight_fits (Turning a) v h = wider 1 1 (pos 3) (pos 6) v (lit< tt) h
eight_fits (Sliding a) v h = h
eight_fits (Telescoping a) v h = h
eight_fits Unlisted v h = h

-- ---- laws: a block is taken exactly where it has a value for each joint, within the range of the joint's link
-- the value of link l's joint, in the block that starts at at, is within the link's range
abbrev pub LinkWithin : List ℕ → List Float → ℕ → ℕ → Type 0
LinkWithin cs xs at l = has_joint (get_or cs l 0) ≡ true → within (joint_range (kind_of (get_or cs l 0))) (get_or xs (at + joint_of cs l) nan) ≡ true

taken : (a b : Bool) → ◌≡◌ {A = ℕ} (cond (not a || not b) 7 0) 0 → b ≡ true
taken true true e = refl
taken true false e = absurd (omega arith)
taken false b e = absurd (omega arith)

module _ (cs : List ℕ) where
  block-link : (xs : List Float) (at l : ℕ) → block_fits cs xs at ≡ true → l < length cs → LinkWithin cs xs at l
  unfolding block_fits link_value_fits value_fits joint_fits
  block-link xs at l e h j =
      let v : within (joint_range (kind_of (get_or cs l 0))) (get_or xs (at + joint_of cs l) nan) ≡ link_value_fits cs xs at l = rw j in
      v ∙ every-at (link_value_fits cs xs at) (length cs) l e h

  link-block : (xs : List Float) (at : ℕ) → ((l : ℕ) → l < length cs → LinkWithin cs xs at l) → block_fits cs xs at ≡ true
  unfolding block_fits link_value_fits value_fits joint_fits
  link-block xs at w = every-from (link_value_fits cs xs at) (length cs) (λ l h. pick l h (has_joint (get_or cs l 0)) refl)
    where
      pick : (l : ℕ) → l < length cs → (t : Bool) → has_joint (get_or cs l 0) ≡ t
          → cond t (within (joint_range (kind_of (get_or cs l 0))) (get_or xs (at + joint_of cs l) nan)) true ≡ true
      pick l h true q = w l h q
      pick l h false q = refl

  -- what is within -8..8 fits, whatever the codes
  pub near-block : (xs : List Float) (at : ℕ) → every (within_at eight xs at) (joints cs) ≡ true → block_fits cs xs at ≡ true
  unfolding within_at
  near-block xs at e = link-block xs at (λ l h j. eight_fits (kind_of (get_or cs l 0)) _ (every-at (within_at eight xs at) (joints cs) (joint_of cs l) e (inside l h j)))
    where
      inside : (l : ℕ) → l < length cs → has_joint (get_or cs l 0) ≡ true → joint_of cs l < joints cs
      inside l h j = omega (arith, joint-more cs l, joints-one (get_or cs l 0) (joint-there (get_or cs l 0) j), joint-mono cs (l + 1) (length cs) (omega (arith, h)), joint-last cs)

  pub near-history : (xs : List Float) → every (within_at eight xs 0) (4 * joints cs) ≡ true → every (history_fits cs xs) 4 ≡ true
  unfolding history_fits within_at
  near-history xs e = every-from (history_fits cs xs) 4 (λ b h. near-block xs (b * joints cs) (every-from (within_at eight xs (b * joints cs)) (joints cs) (λ i l. part b i h l)))
    where
      before : (b n i : ℕ) → b < 4 → i < n → b * n + i < 4 * n
      before b n i h l = let m : b * n ≤ 3 * n = mul-le-mul_right n (omega (arith, h)) in omega (arith, m, l)

      part : (b i : ℕ) → b < 4 → i < joints cs → within eight (get_or xs (b * joints cs + i) nan) ≡ true
      part b i h l =
          let z : 0 + (b * joints cs + i) ≡ b * joints cs + i = omega arith in
          rw (← z) (every-at (within_at eight xs 0) (4 * joints cs) (b * joints cs + i) e (before b (joints cs) i h l))

  pub block-values : (x : List Float) (l : ℕ) → block_refusal cs x ≡ 0 → l < length cs → LinkWithin cs x 0 l
  unfolding block_refusal bad_block
  block-values x l e h = block-link x 0 l (taken (eqb (length x) (joints cs)) (block_fits cs x 0) e) h

  pub block-taken : (x : List Float) → length x ≡ joints cs → ((l : ℕ) → l < length cs → LinkWithin cs x 0 l) → block_refusal cs x ≡ 0
  unfolding block_refusal bad_block
  block-taken x n w = rw (eq-eqb _ _ n, link-block x 0 w)

  pub history-values : (xs : List Float) (b l : ℕ) → history_refusal cs xs ≡ 0 → b < 4 → l < length cs → LinkWithin cs xs (b * joints cs) l
  unfolding history_refusal bad_history history_fits
  history-values xs b l e g h = block-link xs (b * joints cs) l (every-at (history_fits cs xs) 4 b (taken (eqb (length xs) (4 * joints cs)) (every (history_fits cs xs) 4) e) g) h

  pub history-taken : (xs : List Float) → length xs ≡ 4 * joints cs → ((b l : ℕ) → b < 4 → l < length cs → LinkWithin cs xs (b * joints cs) l) → history_refusal cs xs ≡ 0
  unfolding history_refusal bad_history history_fits
  history-taken xs n w = rw (eq-eqb _ _ n, every-from (history_fits cs xs) 4 (λ b g. link-block xs (b * joints cs) (λ l h. w b l g h)))

-- ---- laws: sheets whose joints have one range
module _ (r : Float) (cs : List ℕ) (one : OneRange r cs) where
  links-plain : (xs : List Float) (at l : ℕ) → every (link_value_fits cs xs at) l ≡ every (within_at r xs at) (joint_of cs l)
  unfolding every joint_of joints_of link_value_fits value_fits joint_fits within_at
  links-plain xs at zero = refl
  links-plain xs at (suc l) =
      ap (λ (b : Bool). b && value_fits (get_or cs l 0) xs (at + joint_of cs l)) (links-plain xs at l) ∙ pick (has_joint (get_or cs l 0)) refl
    where
      and_right : (b : Bool) → (b && true) ≡ b
      and_right true = refl
      and_right false = refl

      pick : (t : Bool) → has_joint (get_or cs l 0) ≡ t
          → (every (within_at r xs at) (joint_of cs l) && value_fits (get_or cs l 0) xs (at + joint_of cs l))
          ≡ every (within_at r xs at) (joint_of cs l + joints_of (get_or cs l 0))
      pick true q = rw (q, one l q) (sym (every_more (within_at r xs at) (joint_of cs l)))
      pick false q = let z : joint_of cs l + 0 ≡ joint_of cs l = omega arith in rw (q, z) (and_right (every (within_at r xs at) (joint_of cs l)))

  fits-plain : (xs : List Float) (at : ℕ) → block_fits cs xs at ≡ every (within_at r xs at) (joints cs)
  unfolding block_fits
  fits-plain xs at = links-plain xs at (length cs) ∙ ap (every (within_at r xs at)) (joint-last cs)

  pub block-plain : (x : List Float) → block_refusal cs x ≡ plain_refusal r (joints cs) x
  unfolding block_refusal bad_block plain_refusal
  block-plain x = ap (λ (b : Bool). cond (not (eqb (length x) (joints cs)) || not b) 7 0) (fits-plain x 0)

  shifted : (xs : List Float) (m i : ℕ) → within_at r xs m i ≡ within_at r xs 0 (m + i)
  unfolding within_at
  shifted xs m i = let z : 0 + (m + i) ≡ m + i = omega arith in rw z

  blocks-plain : (xs : List Float) (k : ℕ) → every (history_fits cs xs) k ≡ every (within_at r xs 0) (k * joints cs)
  unfolding every history_fits
  blocks-plain xs zero = let z : 0 * joints cs ≡ 0 = omega arith in rw z refl
  blocks-plain xs (suc k) =
      let n : ℕ = joints cs in
      let e : k * n + n ≡ suc k * n = omega arith in
      ap (λ (b : Bool). b && block_fits cs xs (k * n)) (blocks-plain xs k)
      ∙ ap (λ (b : Bool). every (within_at r xs 0) (k * n) && b) (fits-plain xs (k * n) ∙ every-ext _ _ n (shifted xs (k * n)))
      ∙ sym (every-join (within_at r xs 0) (k * n) n)
      ∙ ap (every (within_at r xs 0)) e

  pub history-plain : (xs : List Float) → history_refusal cs xs ≡ plain_refusal r (4 * joints cs) xs
  unfolding history_refusal bad_history plain_refusal
  history-plain xs = ap (λ (b : Bool). cond (not (eqb (length xs) (4 * joints cs)) || not b) 7 0) (blocks-plain xs 4)

-- what is within -8..8 fits any code
pub ruleset near = (near-block, near-history)
