-- Telescoping links act in the Jacobian as prismatic ones: of a code it asks whether there is a joint, its axis, and whether it turns, and nothing else.
use Rattle.std.specs.Prelude.{◌≡◌, ltb, get_or, length}
use Rattle.std.proofs.Math.Path.{refl}
use Rattle.std.proofs.Common.{sym, ap, ◌∙◌, arith, ne_eqb}
use Rattle.std.proofs.Math.Bool.{cond}
use mathlib.Core.List.{List, [], ◌∷◌}
use Prim.Native.Nat.{ℕ, zero, suc, ◌+◌, ◌-◌, ◌≤◌}
use Rattle.root.specs.Root.{root_of}
use Rattle.standins.specs.Num.{◌⊕◌, nought}
use Rattle.standins.specs.Cut.{cut_of}
use Rattle.geometry.specs.declared.pose.Pose.{Pose}
use Rattle.geometry.specs.Matrix.{gram_of, determinant_of}
use Rattle.lists.specs.Runs.{runs}
use Rattle.sheet.specs.Code.{has_joint, axis_in, kind_of, prismatic-code, telescoping-code}
use Rattle.sheet.specs.Read.{kind_at}
use Rattle.sheet.specs.Chain.{chain_start, joints_of, joint_of}
use Rattle.manipulability.specs.Jacobian.{axis_piece, axes_of, filling_if, start_filling, filled_of, is_turning, turns_at, step_at, after_of, jacobian_of, manipulability_in, manipulability_to, manipulability_of}

-- two codes that are the same in all that is asked
abbrev pub Alike : ℕ → ℕ → Type 0
Alike c d = (has_joint c ≡ has_joint d) × (axis_in c ≡ axis_in d) × (is_turning (kind_of c) ≡ is_turning (kind_of d))

-- codes 40 to 46 are that with codes 30 to 36
pub telescoping-alike : (a : ℕ) → a ≤ 6 → Alike (40 + a) (30 + a)
unfolding has_joint
telescoping-alike a h = (
  rw (ne_eqb (40 + a) 0 (λ (e : 40 + a ≡ 0). omega arith), ne_eqb (30 + a) 0 (λ (e : 30 + a ≡ 0). omega arith)),
  omega arith,
  ap is_turning (telescoping-code a h) ∙ sym (ap is_turning (prismatic-code a h)),
)

-- codes that are alike, link by link, have one Jacobian and one manipulability at any poses
module _ (P : ℕ → Pose) (cs ds : List ℕ) (h : (l : ℕ) → Alike (get_or cs l 0) (get_or ds l 0)) where
  turns-alike : (l : ℕ) → turns_at cs l ≡ turns_at ds l
  unfolding turns_at kind_at
  turns-alike l = (h l).2

  piece-alike : (l : ℕ) → axis_piece cs l ≡ axis_piece ds l
  unfolding axis_piece
  piece-alike l = λ i. cond ((h l).0 i) ((h l).1 i ∷ []) []

  axes-alike : (f n : ℕ) → axes_of cs f n ≡ axes_of ds f n
  unfolding axes_of
  axes-alike f n = λ i. runs (λ (l : ℕ). piece-alike l i) f n

  joint-alike : (l : ℕ) → joint_of cs l ≡ joint_of ds l
  unfolding joint_of joints_of
  joint-alike zero = refl
  joint-alike (suc l) = λ i. joint-alike l i + cond ((h l).0 i) 1 0

  after-alike : (f e n : ℕ) → after_of P cs f e n ≡ after_of P ds f e n
  unfolding after_of step_at
  after-alike f e zero = λ i. start_filling (joint-alike e i - joint-alike f i)
  after-alike f e (suc n) =
      λ i.
      let z = after-alike f e n i in
      filling_if (turns-alike (f + n) i) (filled_of (P (f + n)) (P (e - 1)).position (get_or (axes-alike f (e - f) i) z.column 0) z) z

  pub jacobian-alike : (f e : ℕ) → jacobian_of P cs f e ≡ jacobian_of P ds f e
  unfolding jacobian_of
  jacobian-alike f e = λ i. (after-alike f e (e - f - 1) i).matrix

  in-alike : (f e : ℕ) → manipulability_in P cs f e ≡ manipulability_in P ds f e
  unfolding manipulability_in
  in-alike f e = λ i. cond (ltb (joint-alike e i - joint-alike f i) 6) nought (root_of (cut_of (determinant_of (gram_of (jacobian-alike f e i)))))

  to-alike : (ns : List ℕ) (c : ℕ) → manipulability_to P ns cs c ≡ manipulability_to P ns ds c
  unfolding manipulability_to
  to-alike ns zero = refl
  to-alike ns (suc c) = λ i. to-alike ns c i ⊕ in-alike (chain_start ns c) (chain_start ns (suc c)) i

  pub manipulability-alike : (ns : List ℕ) → manipulability_of P ns cs ≡ manipulability_of P ns ds
  unfolding manipulability_of
  manipulability-alike ns = to-alike ns (length ns)
