-- The history as bytes is groove's: its four blocks in order, the current first.
use Rattle.std.specs.Prelude.{◌≡◌, refl, List, ◌++◌, ℕ, ◌*◌, ◌≤◌, Float, length, take, replicate}
use Rattle.std.proofs.Common.{sym, ap, ◌∙◌, append_assoc, arith, length-append, length-take-le, take_at}
use Rattle.lists.specs.Splice.{part-splice}
use Rattle.standins.specs.Num.{nought}
use Rattle.groove.specs.declared.vars.History.{History}
use Rattle.groove.specs.Vars.{padded, reset_of, update_of}
use Rattle.arm_bytes.specs.ArmCalls.{updated_blocks, reset_blocks}

-- the four blocks of a history, each as long as it has joints
unfoldable pub blocks_of : History → List Float
blocks_of h = ((take h.joints h.xopt ++ take h.joints h.prev_state) ++ take h.joints h.prev_state2) ++ take h.joints h.prev_state3

-- what every history has: arrays of sixteen, and no more joints
pub record Sixteen (h : History) : Type 0 where
  pub few : h.joints ≤ 16
  pub current : length h.xopt ≡ 16
  pub one-back : length h.prev_state ≡ 16
  pub two_back : length h.prev_state2 ≡ 16

-- a block without the zeros behind it
unpadded : (x : List Float) (n : ℕ) → length x ≡ n → take n (padded x) ≡ x
unfolding padded
unpadded x n e = part-splice (replicate 16 nought) 0 n x (omega arith) e

-- a reset writes the blocks of the history that groove resets to
pub reset-blocks : (x : List Float) → blocks_of (reset_of (padded x) (length x)) ≡ reset_blocks x
unfolding blocks_of reset_blocks
reset-blocks x = ap (λ (y : List Float). ((y ++ y) ++ y) ++ y) (unpadded x (length x) refl)

-- an update writes the blocks of the history that groove updates to
pub update-blocks : (h : History) (x : List Float) → Sixteen h → length x ≡ h.joints → blocks_of (update_of h (padded x)) ≡ updated_blocks (blocks_of h) x
unfolding blocks_of updated_blocks
update-blocks h x s e =
    let n = h.joints in
    let a = take n h.xopt in
    let b = take n h.prev_state in
    let c = take n h.prev_state2 in
    let la : length a ≡ n = length-take-le n h.xopt (omega (arith, s.few, s.current)) in
    let lb : length b ≡ n = length-take-le n h.prev_state (omega (arith, s.few, s.one-back)) in
    let lc : length c ≡ n = length-take-le n h.prev_state2 (omega (arith, s.few, s.two_back)) in
    let three : length ((a ++ b) ++ c) ≡ 3 * length x = omega (arith, length-append (a ++ b) c, length-append a b, la, lb, lc, e) in
    ap (λ (y : List Float). ((y ++ a) ++ b) ++ c) (unpadded x n e)
    ∙ append_assoc (x ++ a) b c ∙ append_assoc x a (b ++ c) ∙ ap (λ (y : List Float). x ++ y) (sym (append_assoc a b c))
    ∙ ap (λ (y : List Float). x ++ y) (sym (take_at ((a ++ b) ++ c) (take n h.prev_state3) (3 * length x) three))
