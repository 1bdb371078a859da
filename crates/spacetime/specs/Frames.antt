-- The lists of frames that a caller gets, chain after chain, of the poses P after each link.
use Rattle.std.specs.Prelude.{◌≡◌, refl, ℕ, zero, suc, ◌+◌, ◌-◌, ◌*◌, ◌≤◌, ◌<◌, Float, length}
use Rattle.std.proofs.Math.Path.{ap}
use Rattle.std.proofs.Common.{◌∙◌, zero-add, arith, length-append}
use mathlib.Core.List.{List, ◌++◌}
use Rattle.std.proofs.Math.ListN.{get_or}
use Rattle.lists.specs.Runs.{runs, runs-ext, length_runs}
use Rattle.geometry.specs.declared.pose.Pose.{Pose}
use Rattle.geometry.specs.Pose.{origin_of}
use Rattle.sheet.specs.Chain.{total, chain_start, chain-start-next, chain-start-mono, chain-start-total}
use Rattle.spacetime.specs.Floats.{vec_at, quat_at, pose_at, flat_vec, flat_quat, flat, vec-length, quat-length, flat-length}
use Rattle.spacetime.specs.Walk.{list_pose}
use Rattle.spacetime.specs.Tool.{tip_of}

-- the positions of links by number, and their rotations
unfoldable pub position_at : (ℕ → Pose) → ℕ → List Float
position_at P l = flat_vec (P l).position

unfoldable pub rotation_at : (ℕ → Pose) → ℕ → List Float
rotation_at P l = flat_quat (P l).rotation

-- n links from f on: n + 1 positions, the origin first
unfoldable pub positions_from : (ℕ → Pose) → ℕ → ℕ → List Float
positions_from P f n = flat_vec origin_of.position ++ runs (position_at P) f n

-- and n + 2 rotations, the last pushed twice
unfoldable pub rotations_from : (ℕ → Pose) → ℕ → ℕ → List Float
rotations_from P f n = flat_quat origin_of.rotation ++ (runs (rotation_at P) f n ++ rotation_at P (f + n - 1))

-- those of chain c
unfoldable pub chain_positions : List ℕ → (ℕ → Pose) → ℕ → List Float
chain_positions ns P c = positions_from P (chain_start ns c) (get_or ns c 0)

unfoldable pub chain_rotations : List ℕ → (ℕ → Pose) → ℕ → List Float
chain_rotations ns P c = rotations_from P (chain_start ns c) (get_or ns c 0)

-- its last frame: the pose after its last link
abbrev pub last_of : List ℕ → (ℕ → Pose) → ℕ → Pose
last_of ns P c = P (chain_start ns c + get_or ns c 0 - 1)

-- the pose at its end: the last frame, followed by the chain's tool if it has one
abbrev pub end_of : List ℕ → List Float → (ℕ → Pose) → ℕ → Pose
end_of ns tools P c = tip_of tools c (last_of ns P c)

unfoldable pub chain_end : List ℕ → List Float → (ℕ → Pose) → ℕ → List Float
chain_end ns tools P c = flat (end_of ns tools P c)

-- what an accepted sheet's chains have: at most four, none without a link
pub record Chains (ns : List ℕ) : Type 0 where
  pub few : length ns ≤ 4
  pub some : (c : ℕ) → c < length ns → 0 < get_or ns c 0

-- all chains
unfoldable pub positions_of : List ℕ → (ℕ → Pose) → List Float
positions_of ns P = runs (chain_positions ns P) 0 (length ns)

unfoldable pub rotations_of : List ℕ → (ℕ → Pose) → List Float
rotations_of ns P = runs (chain_rotations ns P) 0 (length ns)

unfoldable pub ends_of : List ℕ → List Float → (ℕ → Pose) → List Float
ends_of ns tools P = runs (chain_end ns tools P) 0 (length ns)

-- ---- laws: of a list of poses
pub position-list : (r : List Float) (l : ℕ) → flat_vec (vec_at r (7 * l)) ≡ position_at (list_pose r) l
unfolding position_at list_pose pose_at
position-list r l = refl

pub rotation-list : (r : List Float) (l : ℕ) → flat_quat (quat_at r (7 * l + 3)) ≡ rotation_at (list_pose r) l
unfolding rotation_at list_pose pose_at
rotation-list r l = refl

-- ---- their lengths
pub position-length : (P : ℕ → Pose) (l : ℕ) → length (position_at P l) ≡ 3
unfolding position_at
position-length P l = vec-length (P l).position

pub rotation-length : (P : ℕ → Pose) (l : ℕ) → length (rotation_at P l) ≡ 4
unfolding rotation_at
rotation-length P l = quat-length (P l).rotation

pub end-length : (ns : List ℕ) (tools : List Float) (P : ℕ → Pose) (c : ℕ) → length (chain_end ns tools P c) ≡ 7
unfolding chain_end
end-length ns tools P c = flat-length (end_of ns tools P c)

pub chain-positions-length : (ns : List ℕ) (P : ℕ → Pose) (c : ℕ) → length (chain_positions ns P c) ≡ 3 * (get_or ns c 0 + 1)
unfolding chain_positions positions_from
chain-positions-length ns P c =
    length-append (flat_vec origin_of.position) (runs (position_at P) (chain_start ns c) (get_or ns c 0))
    ∙ omega (arith, vec-length origin_of.position, length_runs (position_at P) 3 (position-length P) (chain_start ns c) (get_or ns c 0))

pub chain-rotations-length : (ns : List ℕ) (P : ℕ → Pose) (c : ℕ) → length (chain_rotations ns P c) ≡ 4 * (get_or ns c 0 + 2)
unfolding chain_rotations rotations_from
chain-rotations-length ns P c =
    let r : List Float = runs (rotation_at P) (chain_start ns c) (get_or ns c 0) in
    let l : ℕ = chain_start ns c + get_or ns c 0 - 1 in
    length-append (flat_quat origin_of.rotation) (r ++ rotation_at P l)
    ∙ omega (arith, quat-length origin_of.rotation, length-append r (rotation_at P l), rotation-length P l, length_runs (rotation_at P) 4 (rotation-length P) (chain_start ns c) (get_or ns c 0))

pub positions-length : (ns : List ℕ) (P : ℕ → Pose) (c : ℕ) → length (runs (chain_positions ns P) 0 c) ≡ 3 * (chain_start ns c + c)
unfolding runs chain_start
positions-length ns P zero = refl
positions-length ns P (suc c) =
    length-append (runs (chain_positions ns P) 0 c) (chain_positions ns P (0 + c))
    ∙ omega (arith, positions-length ns P c, chain-positions-length ns P (0 + c), ap (λ (k : ℕ). get_or ns k 0) (zero-add c))

pub rotations-length : (ns : List ℕ) (P : ℕ → Pose) (c : ℕ) → length (runs (chain_rotations ns P) 0 c) ≡ 4 * (chain_start ns c + 2 * c)
unfolding runs chain_start
rotations-length ns P zero = refl
rotations-length ns P (suc c) =
    length-append (runs (chain_rotations ns P) 0 c) (chain_rotations ns P (0 + c))
    ∙ omega (arith, rotations-length ns P c, chain-rotations-length ns P (0 + c), ap (λ (k : ℕ). get_or ns k 0) (zero-add c))

-- a chain's end within the whole
pub chain-within : (ns : List ℕ) (c : ℕ) → c < length ns → chain_start ns c + get_or ns c 0 ≤ total ns
chain-within ns c h = omega (arith, chain-start-next ns c, chain-start-mono ns (c + 1) (length ns) (omega arith), chain-start-total ns)

-- ---- poses that agree at every link make the same lists
module _ (ns : List ℕ) (P Q : ℕ → Pose) (same : (l : ℕ) → l < total ns → P l ≡ Q l) where
  links-ext : (f : (ℕ → Pose) → ℕ → List Float) → ((l : ℕ) → P l ≡ Q l → f P l ≡ f Q l) → (c : ℕ) → c < length ns
      → runs (f P) (chain_start ns c) (get_or ns c 0) ≡ runs (f Q) (chain_start ns c) (get_or ns c 0)
  links-ext f each c h =
      runs-ext (f P) (f Q) (chain_start ns c) (get_or ns c 0) (λ i l. each (chain_start ns c + i) (same (chain_start ns c + i) (omega (arith, chain-within ns c h))))

  position-ext : (l : ℕ) → P l ≡ Q l → position_at P l ≡ position_at Q l
  unfolding position_at
  position-ext l e = ap (λ (p : Pose). flat_vec p.position) e

  rotation-ext : (l : ℕ) → P l ≡ Q l → rotation_at P l ≡ rotation_at Q l
  unfolding rotation_at
  rotation-ext l e = ap (λ (p : Pose). flat_quat p.rotation) e

  pub positions-ext : positions_of ns P ≡ positions_of ns Q
  unfolding positions_of chain_positions positions_from
  positions-ext =
      runs-ext (chain_positions ns P) (chain_positions ns Q) 0 (length ns)
      (λ c l. ap (λ (r : List Float). flat_vec origin_of.position ++ r) (links-ext position_at position-ext (0 + c) (omega arith)))

  -- the last link of a chain that has one
  last-ext : Chains ns → (c : ℕ) → c < length ns → last_of ns P c ≡ last_of ns Q c
  last-ext chains c h = same (chain_start ns c + get_or ns c 0 - 1) (omega (arith, chain-within ns c h, chains.some c h))

  pub rotations-ext : Chains ns → rotations_of ns P ≡ rotations_of ns Q
  unfolding rotations_of chain_rotations rotations_from
  rotations-ext chains =
      runs-ext (chain_rotations ns P) (chain_rotations ns Q) 0 (length ns)
      (λ c l.
      let r = links-ext rotation_at rotation-ext (0 + c) (omega arith) in
      let e = rotation-ext (chain_start ns (0 + c) + get_or ns (0 + c) 0 - 1) (last-ext chains (0 + c) (omega arith)) in
      rw (r, e))

  pub ends-ext : (tools : List Float) → Chains ns → ends_of ns tools P ≡ ends_of ns tools Q
  unfolding ends_of chain_end
  ends-ext tools chains =
      runs-ext (chain_end ns tools P) (chain_end ns tools Q) 0 (length ns) (λ c l. ap (λ (p : Pose). flat (tip_of tools (0 + c) p)) (last-ext chains (0 + c) (omega arith)))
