-- Where the two kinds of sliding joint agree: with an axis, without a rotation before the link, with an offset that turns nothing and at a finite value they end at the same pose, to the bit.
-- The telescoping joint's steps along the two other axes are zeros of the joint value's sign, the prismatic one's are +0. So it comes down to no coordinate being -0.
use Rattle.std.specs.Prelude.{◌≡◌, refl, Bool, true, false, cond, List, ℕ, ◌+◌, ◌*◌, ◌%◌, ◌≤◌, pos, T, eqb, ltb, Float, get_or}
use Rattle.std.proofs.Common.{sym, ap, ◌∙◌, true≢false, arith, ne_eqb}
use Rattle.std.specs.Float.{nan, inf, fin, binary64}
use Rattle.std.specs.Float.Ieee.{neg, add, sub, mul, of_bits, fits}
use Rattle.std.specs.Float.Ieee.Fits.{add-fits}
use Rattle.std.specs.Float.Ieee.Scale.{finite}
use Rattle.standins.specs.Num.{◌⊕◌, ◌⊖◌, ◌⊗◌, nought, one, two}
use Rattle.standins.specs.Exact.{zero_like, minus_zero, one-times, minus-one-times, nought-times, sum-minus-zero, plus-zero}
use Rattle.geometry.specs.declared.vector.Vec3.{Vec3}
use Rattle.geometry.specs.declared.quaternion.Quat.{Quat}
use Rattle.geometry.specs.declared.pose.Pose.{Pose}
use Rattle.geometry.specs.Vector.{vec, add_of, scale_of, cross_of}
use Rattle.geometry.specs.Quaternion.{identity_of, axis_of, twice_of, rotate_of}
use Rattle.sheet.specs.declared.code.Kind.TheVariants.{Sliding, Telescoping}
use Rattle.sheet.specs.Code.{prismatic-code, telescoping-code}
use Rattle.spacetime.specs.Link.{vec_if, is_none, offset_of, signed_by, along_of, joint_turn, turned_by, carried_of, slid_of, own_axis_of, telescoped_of, moved_of, extended_of, link_of}
use Rattle.spacetime.specs.Floats.{vec_at, quat_at}
use Rattle.spacetime.specs.Walk.{after_link}
use Rattle.spacetime.proofs.Urdf.{after-code}
use Rattle.spacetime.specs.SamePoint.{VecFits}

-- ---- a coordinate that no rotation turns: (a, b, c) is (x, y, z), (y, z, x) or (z, x, y)
-- α, β, γ are +0 times a, b, c
abbrev turn : Float → Float → Float
turn β γ = two ⊗ (γ ⊖ β)

-- what `rotate_of` adds a to
abbrev start : Float → Float → Float → Float
start α β γ = turn β γ ⊗ one ⊕ (nought ⊗ turn α β ⊖ nought ⊗ turn γ α)

abbrev carried : Float → Float → Float → Float → Float
carried a b c p = start (nought ⊗ a) (nought ⊗ b) (nought ⊗ c) ⊕ a ⊕ p

abbrev carried_vec : Vec3 → Vec3 → Vec3
carried_vec d p = vec (carried d.x d.y d.z p.x) (carried d.y d.z d.x p.y) (carried d.z d.x d.y p.z)

carried-is : (d p : Vec3) → add_of (rotate_of identity_of d) p ≡ carried_vec d p
unfolding rotate_of identity_of axis_of twice_of cross_of add_of scale_of
carried-is d p = refl

-- ---- it is not -0
-- +0 times a float is a NaN, -0 or +0
zeros : (P : Float → Type 0) → P nan → P (fin true 0 (pos 0)) → P (fin false 0 (pos 0)) → (v : Float) → P (zero_like v)
zeros P n m p nan = n
zeros P n m p (inf s) = n
zeros P n m p (fin true k e) = m
zeros P n m p (fin false k e) = p

abbrev NotMinus : Float → Float → Type 0
NotMinus β γ = minus_zero (start (fin true 0 (pos 0)) β γ) ≡ false

-- where a is -0
start-not : (b c : Float) → NotMinus (zero_like b) (zero_like c)
unfolding add sub mul neg of_bits
start-not b c =
    zeros (λ (β : Float). NotMinus β (zero_like c))
    (zeros (NotMinus nan) refl refl refl c)
    (zeros (NotMinus (fin true 0 (pos 0))) refl refl refl c)
    (zeros (NotMinus (fin false 0 (pos 0))) refl refl refl c) b

zero-of-minus : (a : Float) → minus_zero a ≡ true → nought ⊗ a ≡ fin true 0 (pos 0)
zero-of-minus nan h = absurd (true≢false (sym h))
zero-of-minus (inf s) h = absurd (true≢false (sym h))
zero-of-minus (fin true m e) h = nought-times (fin true m e)
zero-of-minus (fin false m e) h = absurd (true≢false (sym h))

never : (a b c p : Float) → T (fits binary64 a) → T (fits binary64 p) → minus_zero (carried a b c p) ≡ true → ⊥
never a b c p k l h =
    let s = start (nought ⊗ a) (nought ⊗ b) (nought ⊗ c) in
    let r = sum-minus-zero (s ⊕ a) p (add-fits binary64 s a) l h in
    let q = sum-minus-zero s a (add-fits binary64 _ _) k r.0 in
    let same : s ≡ start (fin true 0 (pos 0)) (zero_like b) (zero_like c) = λ i. start (zero-of-minus a q.1 i) (nought-times b i) (nought-times c i) in
    true≢false (sym q.0 ∙ ap minus_zero same ∙ start-not b c)

-- a value of the format that is not -0
abbrev Plain : Float → Type 0
Plain c = T (fits binary64 c) × (minus_zero c ≡ false)

carried-plain : (a b c p : Float) → T (fits binary64 a) → T (fits binary64 p) → Plain (carried a b c p)
carried-plain a b c p k l = (add-fits binary64 (start (nought ⊗ a) (nought ⊗ b) (nought ⊗ c) ⊕ a) p, go (minus_zero (carried a b c p)) (never a b c p k l))
  where
    go : (t : Bool) → (t ≡ true → ⊥) → t ≡ false
    go true n = absurd (n refl)
    go false n = refl

-- ---- a step of v along an axis: the axis's unit vector times v, or v there and +0 elsewhere
abbrev placed : Bool → Bool → Float → Vec3
placed i j w = vec_if i (vec w nought nought) (vec_if j (vec nought w nought) (vec nought nought w))

along-is : (a : ℕ) (w : Float) → along_of a w ≡ placed (eqb (a % 3) 1) (eqb (a % 3) 2) (cond (ltb 3 a) (neg w) w)
unfolding along_of signed_by
along-is a w = refl

-- no rotation leaves the unit vector as it is
unit_kept : (i j n : Bool) → rotate_of identity_of (placed i j (cond n (neg one) one)) ≡ placed i j (cond n (neg one) one)
unfolding rotate_of identity_of axis_of twice_of cross_of add_of scale_of add sub mul neg of_bits
unit_kept true j true = refl
unit_kept true j false = refl
unit_kept false true true = refl
unit_kept false true false = refl
unit_kept false false true = refl
unit_kept false false false = refl

signed : (n : Bool) (v : Float) → T (fits binary64 v) → cond n (neg one) one ⊗ v ≡ cond n (neg v) v
signed true v k = minus-one-times v k
signed false v k = one-times v k

-- +0 times v adds what +0 does
still : (c v : Float) → Plain c → T (finite v) → c ⊕ nought ⊗ v ≡ c ⊕ nought
unfolding of_bits
still c nan h f = absurd f
still c (inf s) h f = absurd f
still c (fin t m e) h f = ap (λ (z : Float). c ⊕ z) (nought-times (fin t m e)) ∙ plus-zero c t h.0 h.1 ∙ sym (plus-zero c false h.0 h.1)

same_step : (i j n : Bool) (x y z v : Float) → Plain x → Plain y → Plain z → T (fits binary64 v) → T (finite v)
    → add_of (vec x y z) (scale_of (placed i j (cond n (neg one) one)) v) ≡ add_of (vec x y z) (placed i j (cond n (neg v) v))
unfolding add_of scale_of
same_step true j n x y z v X Y Z k f = λ t. vec (x ⊕ signed n v k t) (still y v Y f t) (still z v Z f t)
same_step false true n x y z v X Y Z k f = λ t. vec (still x v X f t) (y ⊕ signed n v k t) (still z v Z f t)
same_step false false n x y z v X Y Z k f = λ t. vec (still x v X f t) (still y v Y f t) (z ⊕ signed n v k t)

-- ---- the link step
skipped : (q o : Quat) → is_none o ≡ true → offset_of q o ≡ q
unfolding offset_of
skipped q o h = rw h

same-position : (a : ℕ) (d : Vec3) (q : Quat) (v : Float) (p : Pose) → (a ≡ 0 → ⊥) → p.rotation ≡ identity_of → q ≡ identity_of → T (fits binary64 v) → T (finite v)
    → VecFits d → VecFits p.position → telescoped_of (carried_of p d) q a v ≡ slid_of p.position (carried_of p d) a v
unfolding telescoped_of slid_of own_axis_of carried_of
same-position a d q v p n r e k f D P =
    let at = p.position in
    let i = eqb (a % 3) 1 in
    let j = eqb (a % 3) 2 in
    let m = ltb 3 a in
    let c : add_of (rotate_of p.rotation d) at ≡ carried_vec d at = ap (λ (t : Quat). add_of (rotate_of t d) at) r ∙ carried-is d at in
    let own : rotate_of q (along_of a one) ≡ placed i j (cond m (neg one) one) = (λ t. rotate_of (e t) (along-is a one t)) ∙ unit_kept i j m in
    let step : add_of (carried_vec d at) (scale_of (placed i j (cond m (neg one) one)) v) ≡ add_of (carried_vec d at) (placed i j (cond m (neg v) v)) =
    same_step i j m (carried_vec d at).x (carried_vec d at).y (carried_vec d at).z v
    (carried-plain d.x d.y d.z at.x D.0 P.0)
    (carried-plain d.y d.z d.x at.y D.1 P.1)
    (carried-plain d.z d.x d.y at.z D.2 P.2) k f in
    (λ t. vec_if (ne_eqb a 0 n t) (c t) (add_of (c t) (scale_of (own t) v)))
    ∙ step
    ∙ sym (λ t. vec_if (ne_eqb a 0 n t) at (add_of (c t) (along-is a v t)))

-- with no rotation before the link and a skipped offset, a telescoping and a prismatic joint that have an axis end at the same pose; a value that 7 lets pass is finite
pub same_point : (a : ℕ) (d : Vec3) (o : Quat) (v : Float) (p : Pose) → (a ≡ 0 → ⊥) → p.rotation ≡ identity_of → is_none o ≡ true → T (fits binary64 v) → T (finite v)
    → VecFits d → VecFits p.position → link_of (Telescoping a) d o v p ≡ link_of (Sliding a) d o v p
unfolding link_of moved_of extended_of turned_by joint_turn
same_point a d o v p n r s k f D P =
    let q = offset_of p.rotation o in
    ap (λ (w : Vec3). record { position = w; rotation = q }) (same-position a d q v p n r (skipped p.rotation o s ∙ r) k f D P)

-- the same of two sheets that have code 40 + a and code 30 + a at link l
pub same-point-codes : (cs ds : List ℕ) (gs x : List Float) (p : Pose) (l j a : ℕ) → (a ≡ 0 → ⊥) → a ≤ 6 → get_or cs l 0 ≡ 40 + a → get_or ds l 0 ≡ 30 + a
    → p.rotation ≡ identity_of → is_none (quat_at gs (7 * l + 3)) ≡ true → T (fits binary64 (get_or x j nan)) → T (finite (get_or x j nan))
    → VecFits (vec_at gs (7 * l)) → VecFits p.position → after_link cs gs x p l j ≡ after_link ds gs x p l j
same-point-codes cs ds gs x p l j a n h e f r s k v D P =
    after-code cs gs x p l j (40 + a) (Telescoping a) (λ (z : 40 + a ≡ 0). omega arith) e (telescoping-code a h)
    ∙ same_point a (vec_at gs (7 * l)) (quat_at gs (7 * l + 3)) (get_or x j nan) p n r s k v D P
    ∙ sym (after-code ds gs x p l j (30 + a) (Sliding a) (λ (z : 30 + a ≡ 0). omega arith) f (prismatic-code a h))
