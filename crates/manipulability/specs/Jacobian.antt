-- The Jacobian of a chain and its manipulability. P gives the pose after each link, numbered across chains; the chain has the links from f on, below e.
use Rattle.std.specs.Prelude.{◌≡◌, Bool, not, List, [], ◌∷◌, ◌++◌, eqb, ltb, Float, get_or, length, take}
use Rattle.std.proofs.Math.Path.{refl, ap}
use Rattle.std.proofs.Common.{sym, ◌∙◌, ⊎_elim, length-append, eq-eqb, ne_eqb}
use Rattle.std.proofs.Math.Bool.{true, false, cond}
use Prim.Native.Nat.{ℕ, zero, suc, ◌+◌, ◌-◌, ◌*◌, ◌/◌, ◌%◌, ◌≤◌, ◌<◌}
use Rattle.std.proofs.Math.Numerals.{add-one}
use native.Mathlib.Omega.{arith}
use Rattle.root.specs.Root.{root_of}
use Rattle.standins.specs.Num.{◌⊕◌, nought, one}
use Rattle.standins.specs.Cut.{cut_of}
use Rattle.geometry.specs.declared.vector.Vec3.{Vec3}
use Rattle.geometry.specs.declared.quaternion.Quat.{Quat}
use Rattle.geometry.specs.declared.pose.Pose.{Pose}
use Rattle.geometry.specs.Vector.{zero_of, sub_of, cross_of}
use Rattle.geometry.specs.Matrix.{gram_of, determinant_of}
use Rattle.lists.specs.Splice.{splice, splice-splice, part-splice}
use Rattle.lists.specs.Runs.{runs, runs_none, runs-more}
use Rattle.lists.specs.Listed.{listed, length-listed}
use Rattle.sheet.specs.declared.code.Kind.{Kind}
use Rattle.sheet.specs.declared.code.Kind.TheVariants.{Fixed, Turning, Sliding, Telescoping, Unlisted}
use Rattle.sheet.specs.Code.{has_joint, axis_in, kind_of}
use Rattle.sheet.specs.Read.{kind_at}
use Rattle.sheet.specs.Chain.{total, chain_start, chain-start-next, chain-start-mono, chain-start-total, joints_of, joint_of, joints, joint-more, joint-mono, joint-last, below_or, joints_in}
use Rattle.manipulability.specs.declared.jacobian.Fill.{Fill}
use Rattle.spacetime.specs.Link.{vec_if, own_axis_of}
use Rattle.spacetime.specs.Floats.{flat_vec}

-- ---- the axes of the chain's joints

-- link l's axis; a fixed link has none to add
unfoldable pub axis_piece : List ℕ → ℕ → List ℕ
axis_piece cs l = cond (has_joint (get_or cs l 0)) (axis_in (get_or cs l 0) ∷ []) []

-- the axes of the joints of n links from f on, in order
unfoldable pub axes_of : List ℕ → ℕ → ℕ → List ℕ
axes_of cs f n = runs (axis_piece cs) f n

-- ---- the columns, one after the other, six floats each

-- what the walk of the chain carries: the next column, the axis vector, the columns
pub record Filling : Type 0 where
  pub column : ℕ
  pub axis : Vec3
  pub matrix : List Float

-- that of the code: its struct, and the matrix beside it
abbrev pub filling_of : Fill → List Float → Filling
filling_of s j = record { column = s.column; axis = s.axis; matrix = j }

abbrev pub filling_if : Bool → Filling → Filling → Filling
filling_if true a b = a
filling_if false a b = b

-- number i of the floats of the identity
unfoldable pub unit_of : ℕ → Float
unit_of i = cond (eqb (i % 6) (i / 6)) one nought

-- column 0, no axis vector, and the identity of six rows and a column a joint
unfoldable pub start_filling : ℕ → Filling
start_filling n = record { column = 0; axis = zero_of; matrix = listed unit_of (6 * n) }

-- the axis as the rotation q turns it; axis none keeps the vector v of before
unfoldable pub axis_vector : ℕ → Quat → Vec3 → Vec3
axis_vector a q v = vec_if (eqb a 0) v (own_axis_of q a)

-- a column: v cross (end - position), then v
unfoldable pub column_of : Vec3 → Vec3 → Vec3 → List Float
column_of v end at = flat_vec (cross_of v (sub_of end at)) ++ flat_vec v

-- the next column filled, for axis a and a link at pose p
unfoldable pub filled_of : Pose → Vec3 → ℕ → Filling → Filling
filled_of p end a z =
    let v = axis_vector a p.rotation z.axis in
    record { column = z.column + 1; axis = v; matrix = splice z.matrix (6 * z.column) (column_of v end p.position) }

abbrev pub is_turning : Kind → Bool
is_turning Fixed = false
is_turning (Turning a) = true
is_turning (Sliding a) = false
is_turning (Telescoping a) = false
is_turning Unlisted = false

unfoldable pub turns_at : List ℕ → ℕ → Bool
turns_at cs l = is_turning (kind_at cs l)

-- a turning link fills the next column, its axis that of the joint with the column's number; another link nothing
unfoldable pub step_at : List ℕ → ℕ → Pose → Vec3 → List ℕ → Filling → Filling
step_at cs l p end axes z = filling_if (turns_at cs l) (filled_of p end (get_or axes z.column 0) z) z

-- after the first n links of the chain; the chain ends at the position of its last link
unfoldable pub after_of : (ℕ → Pose) → List ℕ → ℕ → ℕ → ℕ → Filling
after_of P cs f e zero = start_filling (joints_in cs f e)
after_of P cs f e (suc n) = step_at cs (f + n) (P (f + n)) (P (e - 1)).position (axes_of cs f (e - f)) (after_of P cs f e n)

-- the Jacobian: the last link is skipped
unfoldable pub jacobian_of : (ℕ → Pose) → List ℕ → ℕ → ℕ → List Float
jacobian_of P cs f e = (after_of P cs f e (e - f - 1)).matrix

-- ---- the manipulability

-- of a chain: 0 for fewer than 6 joints
unfoldable pub manipulability_in : (ℕ → Pose) → List ℕ → ℕ → ℕ → Float
manipulability_in P cs f e = cond (ltb (joints_in cs f e) 6) nought (root_of (cut_of (determinant_of (gram_of (jacobian_of P cs f e)))))

-- the sum over the first c chains, from 0
unfoldable pub manipulability_to : (ℕ → Pose) → List ℕ → List ℕ → ℕ → Float
manipulability_to P ns cs zero = nought
manipulability_to P ns cs (suc c) = manipulability_to P ns cs c ⊕ manipulability_in P cs (chain_start ns c) (chain_start ns (suc c))

-- over all chains
unfoldable pub manipulability_of : (ℕ → Pose) → List ℕ → List ℕ → Float
manipulability_of P ns cs = manipulability_to P ns cs (length ns)

-- ---- what the functions ask

-- a chain of the sheet, with at most 16 joints
pub record Part (cs : List ℕ) (f e : ℕ) : Type 0 where
  pub order : f ≤ e
  pub within : e ≤ length cs
  pub few : joints_in cs f e ≤ 16

-- as many links as the chains say, and at most 16 joints
pub record Counted (ns cs : List ℕ) : Type 0 where
  pub whole : total ns ≡ length cs
  pub few : joints cs ≤ 16

-- ---- laws
pub piece-length : (cs : List ℕ) (l : ℕ) → length (axis_piece cs l) ≡ joints_of (get_or cs l 0)
unfolding axis_piece joints_of
piece-length cs l = go (has_joint (get_or cs l 0))
  where
    go : (t : Bool) → length (cond t (axis_in (get_or cs l 0) ∷ []) []) ≡ cond t 1 0
    go true = refl
    go false = refl

pub piece-fixed : (cs : List ℕ) (l : ℕ) → get_or cs l 0 ≡ 0 → axis_piece cs l ≡ []
unfolding axis_piece has_joint
piece-fixed cs l e = rw (eq-eqb (get_or cs l 0) 0 e)

pub piece-one : (cs : List ℕ) (l : ℕ) → (get_or cs l 0 ≡ 0 → ⊥) → axis_piece cs l ≡ axis_in (get_or cs l 0) ∷ []
unfolding axis_piece has_joint
piece-one cs l e = rw (ne_eqb (get_or cs l 0) 0 e)

pub axes-none : (cs : List ℕ) (f : ℕ) → axes_of cs f 0 ≡ []
unfolding axes_of
axes-none cs f = runs_none (axis_piece cs) f

axes-more : (cs : List ℕ) (f n : ℕ) → axes_of cs f (n + 1) ≡ axes_of cs f n ++ axis_piece cs (f + n)
unfolding axes_of
axes-more cs f n = runs-more (axis_piece cs) f n

-- as many axes as joints
pub axes-length : (cs : List ℕ) (f n : ℕ) → joint_of cs f + length (axes_of cs f n) ≡ joint_of cs (f + n)
unfolding axes_of runs joint_of
axes-length cs f zero =
    let e : f + 0 ≡ f = omega arith in
    rw e (omega arith)
axes-length cs f (suc n) =
    let e : f + suc n ≡ suc (f + n) = omega arith in
    rw (e, length-append, piece-length) (omega (arith, axes-length cs f n))

pub axes-count : (cs : List ℕ) (f n : ℕ) → length (axes_of cs f (n + 1)) ≡ length (axes_of cs f n) + joints_of (get_or cs (f + n) 0)
axes-count cs f n = ap length (axes-more cs f n) ∙ length-append (axes_of cs f n) (axis_piece cs (f + n)) ∙ ap (λ (k : ℕ). length (axes_of cs f n) + k) (piece-length cs (f + n))

-- a turn of the loop that writes them
pub axes-turn : (cs : List ℕ) (f n : ℕ) (xs cur new : List ℕ) (k : ℕ) → cur ≡ splice xs 0 (axes_of cs f n) → k ≡ length (axes_of cs f n)
    → length (axes_of cs f n) ≤ length xs → new ≡ splice cur k (axis_piece cs (f + n)) → new ≡ splice xs 0 (axes_of cs f (n + 1))
axes-turn cs f n xs cur new k e₁ e₂ h e₃ =
    e₃ ∙ ap (λ (l : List ℕ). splice l k (axis_piece cs (f + n))) e₁ ∙ splice-splice xs 0 k (axes_of cs f n) (axis_piece cs (f + n)) (omega arith) (omega arith)
    ∙ ap (splice xs 0) (sym (axes-more cs f n))

pub axes-all : (cs : List ℕ) (f e : ℕ) → f ≤ e → length (axes_of cs f (e - f)) ≡ joints_in cs f e
axes-all cs f e h =
    let z : f + (e - f) ≡ e = omega arith in
    omega (arith, axes-length cs f (e - f), ap (joint_of cs) z)

-- a link of the chain has room for its axis
pub axes-room : (cs : List ℕ) (f e i : ℕ) → Part cs f e → f + i < e → length (axes_of cs f i) + joints_of (get_or cs (f + i) 0) ≤ 16
axes-room cs f e i p h =
    let m = joint-mono cs (f + i + 1) e (omega arith) in
    omega (arith, p.few, axes-length cs f i, joint-more cs (f + i))

-- where the loop ends, they are the front of the list
pub axes-front : (cs : List ℕ) (f e i : ℕ) (xs cur : List ℕ) → f ≤ e → i ≡ e - f → cur ≡ splice xs 0 (axes_of cs f i) → take (joints_in cs f e) cur ≡ axes_of cs f (e - f)
axes-front cs f e i xs cur h q r =
    ap (take (joints_in cs f e)) (r ∙ ap (λ (n : ℕ). splice xs 0 (axes_of cs f n)) q)
    ∙ part-splice xs 0 (joints_in cs f e) (axes_of cs f (e - f)) (omega arith) (axes-all cs f e h)

-- a chain with a joint has a link
pub joint-order : (cs : List ℕ) (f e : ℕ) → 0 < joints_in cs f e → f < e
joint-order cs f e h = ⊎_elim (λ (l : f < e). l) (λ (l : e ≤ f). absurd (omega (arith, joint-mono cs e f l))) (below_or f e)

pub start_is : (n : ℕ) → listed unit_of (6 * n) ≡ (start_filling n).matrix
unfolding start_filling
start_is n = refl

pub start-length : (n : ℕ) → length (start_filling n).matrix ≡ 6 * n
unfolding start_filling
start-length n = length-listed unit_of (6 * n)

-- a link that turns has a joint
pub turns-joint : (cs : List ℕ) (l : ℕ) → turns_at cs l ≡ true → joints_of (get_or cs l 0) ≡ 1
unfolding turns_at kind_at kind_of joints_of has_joint
turns-joint cs l e = go (eqb (get_or cs l 0) 0) refl
  where
    go : (t : Bool) → eqb (get_or cs l 0) 0 ≡ t → ◌≡◌ {A = ℕ} (cond (not (eqb (get_or cs l 0) 0)) 1 0) 1
    go true q = let z : ◌≡◌ {A = Bool} false true = rw q at e in let n : ◌≡◌ {A = ℕ} 0 1 = cc in absurd (omega arith)
    go false q = rw q

module _ (P : ℕ → Pose) (cs : List ℕ) (f e : ℕ) where
  pub start-made : (v : Vec3) (m : List Float) → v ≡ zero_of → m ≡ (start_filling (joints_in cs f e)).matrix → record { column = 0; axis = v; matrix = m } ≡ after_of P cs f e 0
  unfolding after_of start_filling
  start-made v m e₁ e₂ = cc

  after_more : (n : ℕ) → after_of P cs f e (n + 1) ≡ step_at cs (f + n) (P (f + n)) (P (e - 1)).position (axes_of cs f (e - f)) (after_of P cs f e n)
  unfolding after_of
  after_more n = rw add-one

  -- a turn of the loop
  pub after-made : (n : ℕ) (p : Pose) (end : Vec3) (axes : List ℕ) (z r : Filling) → p ≡ P (f + n) → end ≡ (P (e - 1)).position → axes ≡ axes_of cs f (e - f)
      → z ≡ after_of P cs f e n → r ≡ step_at cs (f + n) p end axes z → r ≡ after_of P cs f e (n + 1)
  after-made n p end axes z r e₁ e₂ e₃ e₄ e₅ = cc (after_more n)

  -- no more columns than joints
  column-most : (n : ℕ) → joint_of cs f + (after_of P cs f e n).column ≤ joint_of cs (f + n)
  unfolding after_of start_filling step_at filled_of joint_of
  column-most zero = let z : f + 0 ≡ f = omega arith in rw z (omega arith)
  column-most (suc n) =
      let z : f + suc n ≡ suc (f + n) = omega arith in
      rw z (go (turns_at cs (f + n)) refl (column-most n))
    where
      go : (t : Bool) → turns_at cs (f + n) ≡ t → joint_of cs f + (after_of P cs f e n).column ≤ joint_of cs (f + n)
          → joint_of cs f + (filling_if t (filled_of (P (f + n)) (P (e - 1)).position (get_or (axes_of cs f (e - f)) (after_of P cs f e n).column 0) (after_of P cs f e n)) (after_of P cs f e n)).column
          ≤ joint_of cs (f + n) + joints_of (get_or cs (f + n) 0)
      go true q i = omega (arith, turns-joint cs (f + n) q)
      go false q i = omega arith

  -- the next column has an axis
  pub column-room : (n : ℕ) → f + n < e → (after_of P cs f e n).column + joints_of (get_or cs (f + n) 0) ≤ length (axes_of cs f (e - f))
  column-room n h =
      let m = joint-mono cs (f + n + 1) e (omega arith) in
      omega (arith, column-most n, joint-more cs (f + n), axes-all cs f e (omega arith))

-- the first link of a chain is one of the sheet, or stands at its end
start-within : (ns : List ℕ) (c : ℕ) → c ≤ length ns → chain_start ns c ≤ total ns
start-within ns c h = omega (arith, chain-start-mono ns c (length ns) h, chain-start-total ns)

-- each chain of the sheet is a part of it
pub chain-part : (ns cs : List ℕ) (c l : ℕ) → Counted ns cs → c < length ns → l ≡ chain_start ns c → Part cs l (l + get_or ns c 0)
chain-part ns cs c l s h e =
    let n : ℕ = l + get_or ns c 0 in
    let w : n ≤ length cs = omega (arith, s.whole, start-within ns (c + 1) (omega arith), chain-start-next ns c) in
    record {
      order = omega arith;
      within = w;
      few = omega (arith, s.few, joint-mono cs n (length cs) w, joint-last cs);
    }

-- a turn of the sum
pub sum-turn : (P : ℕ → Pose) (ns cs : List ℕ) (c l : ℕ) (out m : Float) → l ≡ chain_start ns c → out ≡ manipulability_to P ns cs c → m ≡ manipulability_in P cs l (l + get_or ns c 0)
    → out ⊕ m ≡ manipulability_to P ns cs (c + 1)
unfolding manipulability_to
sum-turn P ns cs c l out m e₁ e₂ e₃ =
    let n : chain_start ns (suc c) ≡ l + get_or ns c 0 = rw add-one at (chain-start-next ns c ∙ ap (λ (k : ℕ). k + get_or ns c 0) (sym e₁)) in
    rw add-one (cc)

-- ---- poses that agree
module _ (P Q : ℕ → Pose) (cs : List ℕ) (f e : ℕ) (same : (l : ℕ) → f ≤ l → l < e → P l ≡ Q l) where
  after-ext : (n : ℕ) → n ≤ e - f - 1 → after_of P cs f e n ≡ after_of Q cs f e n
  unfolding after_of
  after-ext zero h = refl
  after-ext (suc n) h =
      let i : after_of P cs f e n ≡ after_of Q cs f e n = after-ext n (omega arith) in
      let p : P (f + n) ≡ Q (f + n) = same (f + n) (omega arith) (omega arith) in
      let q : P (e - 1) ≡ Q (e - 1) = same (e - 1) (omega arith) (omega arith) in
      rw (i, p, q)

  pub chain-ext : manipulability_in P cs f e ≡ manipulability_in Q cs f e
  unfolding manipulability_in jacobian_of
  chain-ext =
      ap (λ (z : Filling). cond (ltb (joints_in cs f e) 6) nought (root_of (cut_of (determinant_of (gram_of z.matrix)))))
      (after-ext (e - f - 1) (omega arith))

module _ (P Q : ℕ → Pose) (ns cs : List ℕ) (same : (l : ℕ) → l < total ns → P l ≡ Q l) where
  to-ext : (c : ℕ) → c ≤ length ns → manipulability_to P ns cs c ≡ manipulability_to Q ns cs c
  unfolding manipulability_to
  to-ext zero h = refl
  to-ext (suc c) h =
      let i : manipulability_to P ns cs c ≡ manipulability_to Q ns cs c = to-ext c (omega arith) in
      let m = chain-ext P Q cs (chain_start ns c) (chain_start ns (suc c)) (λ l a b. same l (omega (arith, start-within ns (suc c) h))) in
      rw (i, m)

  -- the manipulability looks at no link past the last chain
  pub manipulability-ext : manipulability_of P ns cs ≡ manipulability_of Q ns cs
  unfolding manipulability_of
  manipulability-ext = to-ext (length ns) (omega arith)
