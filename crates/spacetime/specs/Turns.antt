-- Lists of four floats a link: the turns of all joints, and the rotations after the links, which come to stand in their place.
use Rattle.std.specs.Prelude.{◌≡◌, Bool, true, false, Float}
use Rattle.std.proofs.Math.Path.{refl, sym, ap}
use Rattle.std.proofs.Common.{◌∙◌, add-one}
use mathlib.Core.List.{List}
use Prim.Native.Nat.{ℕ, zero, suc, ◌+◌, ◌-◌, ◌*◌, ◌≤◌, ◌<◌}
use native.Mathlib.Omega.{arith}
use Rattle.std.specs.Float.Ieee.{nan}
use Rattle.std.proofs.Math.ListN.{length, get_or}
use Rattle.geometry.specs.declared.vector.Vec3.{Vec3}
use Rattle.geometry.specs.declared.quaternion.Quat.{Quat}
use Rattle.geometry.specs.declared.pose.Pose.{Pose}
use Rattle.geometry.specs.Quaternion.{identity_of}
use Rattle.geometry.specs.Pose.{origin_of}
use Rattle.lists.specs.Splice.{splice, get_or-splice-in, get_or-splice-after}
use Rattle.lists.specs.Runs.{runs, length_runs, get_or-runs, splice-turn-at, splice-start-at}
use Rattle.sheet.specs.declared.code.Kind.{Kind}
use Rattle.sheet.specs.Chain.{first_in, joint_of}
use Rattle.sheet.specs.Read.{kind_at}
use Rattle.spacetime.specs.Link.{quat_if, joint_turn, offset_of, turned_by, moved_of, extended_of, link_of}
use Rattle.spacetime.specs.Floats.{vec_at, quat_at, flat_quat, quat-length, quat-is}
use Rattle.spacetime.specs.Walk.{pose_if, value_of, after_link, start_of, before_of, pose_of}

-- the quaternions f 0, f 1, .. of the first n links
unfoldable pub quats_of : (ℕ → Quat) → ℕ → List Float
quats_of f n = runs (λ l. flat_quat (f l)) 0 n

-- link l's turn, its joint's number being j
unfoldable pub turn_at : List ℕ → List Float → ℕ → ℕ → Quat
turn_at cs x l j = joint_turn (kind_at cs l) (value_of cs x l j)

-- the turns of all links
unfoldable pub turns_of : List ℕ → List Float → List Float
turns_of cs x = quats_of (λ l. turn_at cs x l (joint_of cs l)) (length cs)

-- the rotation with which link l is met, q being the one after the link before: a chain starts unturned
unfoldable pub start_turn : List ℕ → ℕ → Quat → Quat
start_turn ns l q = quat_if (first_in ns l) identity_of q

-- the rotation after link l, met with q, its turn t
unfoldable pub after_turn : List ℕ → List Float → Quat → ℕ → Quat → Quat
after_turn cs gs q l t = turned_by (kind_at cs l) (offset_of q (quat_at gs (7 * l + 3))) t

-- the rotation with which link l is met, the turns being in a list
unfoldable pub met_by : List ℕ → List ℕ → List Float → List Float → ℕ → Quat
met_by ns cs gs ts zero = identity_of
met_by ns cs gs ts (suc l) = start_turn ns (suc l) (after_turn cs gs (met_by ns cs gs ts l) l (quat_at ts (4 * l)))

-- the rotation after it
unfoldable pub rotation_by : List ℕ → List ℕ → List Float → List Float → ℕ → Quat
rotation_by ns cs gs ts l = after_turn cs gs (met_by ns cs gs ts l) l (quat_at ts (4 * l))

-- the rotations after all links
unfoldable pub rotations_by : List ℕ → List ℕ → List Float → List Float → List Float
rotations_by ns cs gs ts = quats_of (rotation_by ns cs gs ts) (length cs)

-- a list that holds the turns of block x
pub record Turned (cs : List ℕ) (x ts : List Float) : Type 0 where
  pub room : 4 * length cs ≤ length ts
  pub each : (l : ℕ) → l < length cs → quat_at ts (4 * l) ≡ turn_at cs x l (joint_of cs l)

-- a list that holds the rotations of its walk
pub record Rotated (ns cs : List ℕ) (gs x rs : List Float) : Type 0 where
  pub room : 4 * length cs ≤ length rs
  pub each : (l : ℕ) → l < length cs → quat_at rs (4 * l) ≡ (pose_of ns cs gs x l).rotation

-- ---- laws of lists of quaternions
module _ (f : ℕ → Quat) where
  quats-length : (n : ℕ) → length (quats_of f n) ≡ n * 4
  unfolding quats_of
  quats-length n = length_runs (λ l. flat_quat (f l)) 4 (λ l. quat-length (f l)) 0 n

  -- where a loop that puts them begins, and its turn
  pub quats-none : (xs : List Float) → xs ≡ splice xs 0 (quats_of f 0)
  unfolding quats_of
  quats-none xs = splice-start-at (λ l. flat_quat (f l)) xs 0

  pub quats-turn : (xs cur new : List Float) (k : ℕ) (q : Quat) → cur ≡ splice xs 0 (quats_of f k) → 4 * k ≤ length xs → q ≡ f k → new ≡ splice cur (4 * k) (flat_quat q)
      → new ≡ splice xs 0 (quats_of f (k + 1))
  unfolding quats_of
  quats-turn xs cur new k q e fits is made =
      let n : length (runs (λ l. flat_quat (f l)) 0 k) ≡ k * 4 = quats-length k in
      splice-turn-at (λ l. flat_quat (f l)) xs cur new 0 (4 * k) k e (omega arith) (omega arith) (made ∙ ap (λ (z : Quat). splice cur (4 * k) (flat_quat z)) is)

  -- what the loop has put, and what it has not come to yet
  pub quats-behind : (xs : List Float) (n l : ℕ) → 4 * n ≤ length xs → l < n → quat_at (splice xs 0 (quats_of f n)) (4 * l) ≡ f l
  unfolding quats_of
  quats-behind xs n l room h =
      let k : length (runs (λ l. flat_quat (f l)) 0 n) ≡ n * 4 = quats-length n in
      quat-is (splice xs 0 (runs (λ l. flat_quat (f l)) 0 n)) (4 * l) (f l)
      (λ r b.
      let i : 4 * l + r ≡ 0 + (l * 4 + r) = omega arith in
      let z : 0 + l ≡ l = omega arith in
      ap (λ (m : ℕ). get_or (splice xs 0 (runs (λ l. flat_quat (f l)) 0 n)) m nan) i
      ∙ get_or-splice-in xs 0 (runs (λ l. flat_quat (f l)) 0 n) (l * 4 + r) nan (omega arith) (omega arith)
      ∙ get_or-runs (λ l. flat_quat (f l)) 4 (λ l. quat-length (f l)) 0 n l r nan h b
      ∙ ap (λ (m : ℕ). get_or (flat_quat (f m)) r nan) z)

  pub quats-ahead : (xs : List Float) (n l : ℕ) → 4 * n ≤ length xs → n ≤ l → quat_at (splice xs 0 (quats_of f n)) (4 * l) ≡ quat_at xs (4 * l)
  unfolding quat_at
  quats-ahead xs n l room h = rw (at (4 * l) (omega arith), at (4 * l + 1) (omega arith), at (4 * l + 2) (omega arith), at (4 * l + 3) (omega arith))
    where
      at : (i : ℕ) → 4 * n ≤ i → get_or (splice xs 0 (quats_of f n)) i nan ≡ get_or xs i nan
      at i b =
          let k : ℕ = length (quats_of f n) in
          let e : i ≡ 0 + k + (i - 4 * n) = omega (arith, quats-length n) in
          ap (λ (m : ℕ). get_or (splice xs 0 (quats_of f n)) m nan) e ∙ get_or-splice-after xs 0 (quats_of f n) (i - 4 * n) nan (omega (arith, quats-length n)) ∙ ap (λ (m : ℕ). get_or xs m nan) (sym e)

-- ---- laws of turns and rotations
pub turns-turned : (cs : List ℕ) (x rest new : List Float) → 4 * length cs ≤ length rest → length new ≡ length rest → new ≡ splice rest 0 (turns_of cs x) → Turned cs x new
unfolding turns_of
turns-turned cs x rest new room same e = record {
  room = omega arith;
  each = λ l h. ap (λ (z : List Float). quat_at z (4 * l)) e ∙ quats-behind (λ l. turn_at cs x l (joint_of cs l)) rest (length cs) l room h;
}

pub met-zero : (ns cs : List ℕ) (gs ts : List Float) (q : Quat) → first_in ns 0 ≡ true → start_turn ns 0 q ≡ met_by ns cs gs ts 0
unfolding start_turn met_by
met-zero ns cs gs ts q e = rw e

pub met-more : (ns cs : List ℕ) (gs ts : List Float) (l : ℕ) (q : Quat) → q ≡ rotation_by ns cs gs ts l → start_turn ns (l + 1) q ≡ met_by ns cs gs ts (l + 1)
unfolding rotation_by met_by
met-more ns cs gs ts l q e = rw add-one (ap (start_turn ns (suc l)) e)

-- what a turn of the loop makes
pub rotation-made : (ns cs : List ℕ) (gs ts : List Float) (l : ℕ) (q s t r : Quat) → start_turn ns l q ≡ met_by ns cs gs ts l → s ≡ start_turn ns l q → t ≡ quat_at ts (4 * l)
    → r ≡ after_turn cs gs s l t → r ≡ rotation_by ns cs gs ts l
unfolding rotation_by
rotation-made ns cs gs ts l q s t r e₁ e₂ e₃ e₄ = cc

start-rotation : (ns : List ℕ) (l : ℕ) (p : Pose) → (start_of ns l p).rotation ≡ start_turn ns l p.rotation
unfolding start_of start_turn origin_of
start-rotation ns l p = go (first_in ns l)
  where
    go : (b : Bool) → (pose_if b origin_of p).rotation ≡ quat_if b identity_of p.rotation
    go true = refl
    go false = refl

after-rotation : (cs : List ℕ) (gs x : List Float) (p : Pose) (l j : ℕ) → (after_link cs gs x p l j).rotation ≡ after_turn cs gs p.rotation l (turn_at cs x l j)
unfolding after_link link_of after_turn turn_at
after-rotation cs gs x p l j = refl

-- a link's pose, made of its two steps and its rotation
pub link-made : (kind : Kind) (d : Vec3) (o : Quat) (v : Float) (p : Pose) (m r : Vec3) (q : Quat) → m ≡ moved_of kind p d v → r ≡ extended_of kind m q v
    → q ≡ turned_by kind (offset_of p.rotation o) (joint_turn kind v) → record { position = r; rotation = q } ≡ link_of kind d o v p
unfolding link_of
link-made kind d o v p m r q e₁ e₂ e₃ =
    ap (λ (z : Vec3). record { position = z; rotation = q }) (e₂ ∙ ap (λ (z : Vec3). extended_of kind z q v) e₁)
    ∙ ap (λ (z : Quat). record { position = extended_of kind (moved_of kind p d v) z v; rotation = z }) e₃

-- the same of a sheet's link, whose rotation is known
pub pose-known : (cs : List ℕ) (gs x : List Float) (p : Pose) (l j : ℕ) (kind : Kind) (d : Vec3) (v : Float) (m r : Vec3) (q : Quat) → kind ≡ kind_at cs l → d ≡ vec_at gs (7 * l)
    → v ≡ value_of cs x l j → m ≡ moved_of kind p d v → r ≡ extended_of kind m q v → q ≡ (after_link cs gs x p l j).rotation
    → record { position = r; rotation = q } ≡ after_link cs gs x p l j
unfolding after_link link_of
pose-known cs gs x p l j kind d v m r q e₁ e₂ e₃ e₄ e₅ e₆ =
    link-made (kind_at cs l) (vec_at gs (7 * l)) (quat_at gs (7 * l + 3)) (value_of cs x l j) p m r q
    (e₄ ∙ (λ i. moved_of (e₁ i) p (e₂ i) (e₃ i))) (e₅ ∙ (λ i. extended_of (e₁ i) m q (e₃ i))) e₆

-- the rotations made of a block's turns are those of its walk
module _ (ns cs : List ℕ) (gs x ts : List Float) (turned : Turned cs x ts) where
  met-before : (l : ℕ) → l ≤ length cs → met_by ns cs gs ts l ≡ (before_of ns cs gs x l).rotation
  unfolding met_by before_of origin_of
  met-before zero h = refl
  met-before (suc l) h =
      let p : Pose = before_of ns cs gs x l in
      ap (start_turn ns (suc l))
      (ap (λ (q : Quat). after_turn cs gs q l (quat_at ts (4 * l))) (met-before l (omega arith))
      ∙ ap (after_turn cs gs p.rotation l) (turned.each l (omega arith)) ∙ sym (after-rotation cs gs x p l (joint_of cs l)))
      ∙ sym (start-rotation ns (suc l) (after_link cs gs x p l (joint_of cs l)))

  rotation-walked : (l : ℕ) → l < length cs → rotation_by ns cs gs ts l ≡ (pose_of ns cs gs x l).rotation
  unfolding rotation_by pose_of
  rotation-walked l h =
      ap (λ (q : Quat). after_turn cs gs q l (quat_at ts (4 * l))) (met-before l (omega arith))
      ∙ ap (after_turn cs gs (before_of ns cs gs x l).rotation l) (turned.each l h) ∙ sym (after-rotation cs gs x (before_of ns cs gs x l) l (joint_of cs l))

  pub turned-rotated : (new : List Float) → length new ≡ length ts → new ≡ splice ts 0 (rotations_by ns cs gs ts) → Rotated ns cs gs x new
  unfolding rotations_by
  turned-rotated new same e = record {
    room = omega (arith, turned.room);
    each = λ l h. ap (λ (z : List Float). quat_at z (4 * l)) e ∙ quats-behind (rotation_by ns cs gs ts) ts (length cs) l turned.room h ∙ rotation-walked l h;
  }
