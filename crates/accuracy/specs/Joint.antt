-- Every joint of a block that is taken is answered, as it stands and raised: sine and cosine of its half are numbers.
use Rattle.std.specs.Prelude.{◌≡◌, true, false, List, ℕ, ◌+◌, ◌*◌, ◌≤◌, ◌<◌, ℤ, T, Float, length, get_or}
use Rattle.std.proofs.Common.{arith, lit≤}
use Rattle.std.specs.Float.{nan, inf, fin}
use Rattle.std.specs.Float.Ieee.{up, down, neg, of_bits, le}
use Rattle.standins.specs.Num.{◌⊕◌, ◌⊗◌, half, one, abs_of}
use Rattle.sheet.specs.declared.code.Kind.{Kind}
use Rattle.sheet.specs.declared.code.Kind.TheVariants.{Fixed, Turning, Sliding, Telescoping, Unlisted}
use Rattle.sheet.specs.Code.{has_joint, kind_of}
use Rattle.sheet.specs.Chain.{joint_of}
use Rattle.refusals.specs.Range.{within, AtMost, within-size}
use Rattle.refusals.specs.Refusal.{joint_range, block_refusal}
use Rattle.refusals.specs.Plain.{block-values}
use Rattle.accuracy.specs.Answered.{Most, most-more, crossed, le-most, add_most, Answered, half-answered}

-- what is within a range is at most its bound in size
within-most : (v : Float) (n : ℕ) (f : ℤ) (k : ℕ) → within (fin false n f) v ≡ true → n * up f ≤ k * down f → Most k v
within-most v n f k h l = go v (within-size n f v h)
  where
    go : (v : Float) → AtMost n f v → Most k v
    go nan i = i
    go (inf s) i = i
    go (fin s m e) i = crossed m n k e f i l

joint-most : (k : Kind) (v : Float) → within (joint_range k) v ≡ true → Most 64 v
unfolding joint_range of_bits
joint-most Fixed v h = within-most v _ _ 64 h (lit≤ tt)
joint-most (Turning a) v h = within-most v _ _ 64 h (lit≤ tt)
joint-most (Sliding a) v h = within-most v _ _ 64 h (lit≤ tt)
joint-most (Telescoping a) v h = within-most v _ _ 64 h (lit≤ tt)
joint-most Unlisted v h = within-most v _ _ 64 h (lit≤ tt)

-- of link l's joint: half of it, and half of its negative, which is what a negative axis asks
module _ (cs : List ℕ) (x : List Float) (l : ℕ) (e : block_refusal cs x ≡ 0) (h : l < length cs) (j : has_joint (get_or cs l 0) ≡ true) where
  abbrev value : Float
  value = get_or x (joint_of cs l) nan

  value-most : Most 64 value
  value-most = let z : 0 + joint_of cs l ≡ joint_of cs l = omega arith in rw (← z) (joint-most (kind_of (get_or cs l 0)) _ (block-values cs x l e h j))

  -- as it stands
  pub joint-answered : Answered (value ⊗ half) × Answered (neg value ⊗ half)
  joint-answered = half-answered value (most-more 64 66 value value-most (lit≤ tt))

  -- raised by a step of at most 1: 64.0000001 too
  pub raised-answered : (s : Float) → T (le (abs_of s) one) → Answered ((value ⊕ s) ⊗ half) × Answered (neg (value ⊕ s) ⊗ half)
  unfolding of_bits
  raised-answered s i = half-answered (value ⊕ s) (add_most value s 64 1 value-most (le-most s _ _ 1 i (lit≤ tt)) (lit≤ tt))
