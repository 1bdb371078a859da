-- The tool at a chain's end.
use Rattle.std.specs.Prelude.{◌≡◌, false, List, ℕ, ◌+◌, ◌*◌, ◌<◌, Float, get_or}
use Rattle.std.proofs.Common.{add-zero, arith}
use Rattle.std.specs.Float.{nan}
use Rattle.standins.specs.Num.{nought}
use Rattle.geometry.specs.declared.pose.Pose.{Pose}
use Rattle.sheet.specs.declared.code.Kind.TheVariants.{Fixed}
use Rattle.sheet.specs.Tool.{has_tool}
use Rattle.spacetime.specs.Link.{link_of}
use Rattle.spacetime.specs.Floats.{vec_at, quat_at}
use Rattle.spacetime.specs.Walk.{pose_if}

-- pose p followed by chain c's tool, as if by a fixed link; without a tool, p as it is
unfoldable pub tip_of : List Float → ℕ → Pose → Pose
tip_of tools c p = pose_if (has_tool tools c) (link_of Fixed (vec_at tools (8 * c + 1)) (quat_at tools (8 * c + 4)) nought p) p

-- ---- laws
pub no-tip : (tools : List Float) (c : ℕ) (p : Pose) → has_tool tools c ≡ false → tip_of tools c p ≡ p
unfolding tip_of
no-tip tools c p e = rw e

-- lists that agree in a chain's eight floats
pub tip_same : (a b : List Float) (c : ℕ) (p : Pose) → ((i : ℕ) → i < 8 → get_or a (8 * c + i) nan ≡ get_or b (8 * c + i) nan) → tip_of a c p ≡ tip_of b c p
unfolding tip_of has_tool vec_at quat_at
tip_same a b c p same =
    let h0 : get_or a (8 * c) nan ≡ get_or b (8 * c) nan = rw add-zero at (same 0 (omega arith)) in
    let e2 : 8 * c + 1 + 1 ≡ 8 * c + 2 = omega arith in
    let e3 : 8 * c + 1 + 2 ≡ 8 * c + 3 = omega arith in
    let e5 : 8 * c + 4 + 1 ≡ 8 * c + 5 = omega arith in
    let e6 : 8 * c + 4 + 2 ≡ 8 * c + 6 = omega arith in
    let e7 : 8 * c + 4 + 3 ≡ 8 * c + 7 = omega arith in
    rw (e2, e3, e5, e6, e7, h0, same 1 (omega arith), same 2 (omega arith), same 3 (omega arith), same 4 (omega arith), same 5 (omega arith), same 6 (omega arith), same 7 (omega arith))
