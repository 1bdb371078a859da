-- Laws of the byte call of the one-block gradient, for its proofs.
use Rattle.std.specs.Prelude.{◌≡◌, refl, Bool, true, false, List, [], ◌∷◌, eqb, Float, length, get_or}
use Rattle.std.proofs.Common.{⊎_elim, lt-ltb, le-ltb, eqb-true}
use Prim.Native.Nat.{ℕ, zero, suc, ◌+◌, ◌-◌, ◌*◌, ◌≤◌, ◌<◌}
use native.Mathlib.Omega.{arith}
use Rattle.std.proofs.lemmas.Bool.{eqb-false}
use Rattle.sheet.specs.Chain.{end_in, total, joint_of, joints_of, joints, joints-one, joint-last, below_or}
use Rattle.refusals.specs.Lowest.{first-none}
use Rattle.refusals.specs.Refusal.{links_of}
use Rattle.refusals.specs.Passed.{Shape, load-passed, room-passed}
use Rattle.one_block.specs.Record.{again_at, again_below, entries_of}
use Rattle.one_block.specs.Laws.{again-at-joint, again-at-fixed, length-joints, length-links, length-poses}
use Rattle.calls.specs.OneBlock.{record_refusal}
use Rattle.lent_bytes.specs.Lent.{room_in, number_room_in, number-room-within}
use Rattle.lent_bytes.specs.SheetLists.{SheetLists}
use Rattle.arm_bytes.specs.ArmLaws.{bytes_fit}
use Rattle.objective_bytes.specs.ObjectiveCalls.{TaskLists, task_number}
use Rattle.objective_bytes.specs.ObjectiveLaws.{Passed, Taken, task-taken}
use Rattle.one_block_bytes.specs.OneBlockCalls.{entries_in, one_block_number, record_joints_in, record_links_in, record_poses_in}

-- ---- how many entries: chains have at most 16 links, and there are at most 16 joints
end-near : (ns : List ℕ) (k : ℕ) → ((c : ℕ) → c < length ns → get_or ns c 0 ≤ 16) → end_in ns k ≤ k + 16
unfolding end_in
end-near [] k h = omega arith
end-near (n ∷ ns) k h =
    let first : n ≤ 16 = h 0 (omega arith) in
    ⊎_elim (λ (b : k < n). rw (lt-ltb k n b) (omega arith))
    (λ (b : n ≤ k). let r = end-near ns (k - n) (λ c l. h (suc c) (omega arith)) in rw (le-ltb k n b) (omega (arith, r)))
    (below_or k n)

module _ (ns cs : List ℕ) (few : (c : ℕ) → c < length ns → get_or ns c 0 ≤ 16) where
  again-near : (l : ℕ) → again_at ns cs l ≤ 16 * joints_of (get_or cs l 0)
  again-near l = go (eqb (get_or cs l 0) 0) refl
    where
      go : (t : Bool) → eqb (get_or cs l 0) 0 ≡ t → again_at ns cs l ≤ 16 * joints_of (get_or cs l 0)
      go true q = let e = eqb-true (get_or cs l 0) 0 q in omega (arith, again-at-fixed ns cs l e)
      go false q =
          let e = eqb-false (get_or cs l 0) 0 q in
          omega (arith, again-at-joint ns cs l e, joints-one (get_or cs l 0) e, end-near ns l few)

  below-near : (l : ℕ) → again_below ns cs l ≤ 16 * joint_of cs l
  unfolding again_below joint_of
  below-near zero = omega arith
  below-near (suc l) = omega (arith, below-near l, again-near l)

  entries-near : length cs ≤ 64 → joints cs ≤ 16 → entries_of ns cs ≤ 320
  unfolding entries_of
  entries-near a b = omega (arith, below-near (length cs), joint-last cs)

shape-entries : (sizes cs : List ℕ) (floats : ℕ) → Shape sizes cs floats → entries_of (links_of sizes) cs ≤ 320
shape-entries sizes cs floats s =
    entries-near (links_of sizes) cs (λ c h. (s.sized.links c (omega (arith, s.sized.long))).1) s.most s.moving

-- ---- what a call knows that is accepted with outputs of so many bytes
pub record Fitted (s : SheetLists) (t : TaskLists) (x : List Float) (value slopes rj rl rp : ℕ) : Type 0 where
  pub accepted : Passed s t x
  pub few : length x ≤ 16
  pub entries : entries_in s ≤ 320
  pub value_room : 8 ≤ value
  pub slopes-room : 8 * length x ≤ slopes
  pub joints-room : 2 * entries_in s ≤ rj
  pub links-room : 2 * entries_in s ≤ rl
  pub poses-room : 8 * (7 * entries_in s) ≤ rp

-- what the sheet is known to be
pub record Counted (s : SheetLists) : Type 0 where
  pub whole : total (links_of s.sizes) ≡ length s.codes
  pub chains : length (links_of s.sizes) ≤ 4
  pub links : length s.codes ≤ 64
  pub entries : entries_in s ≤ 320

pub task-counted : (s : SheetLists) (goals history x : List Float) → task_number s goals history x ≡ 0 → Counted s
unfolding task_number
task-counted s goals history x e =
    let p : Shape s.sizes s.codes (length s.floats) = (load-passed s.sizes s.codes s.floats s.limits (first-none _ _ e).0).0 in
    record {
      whole = p.whole;
      chains = omega (arith, p.sized.long, p.sized.few);
      links = p.most;
      entries = shape-entries s.sizes s.codes (length s.floats) p;
    }

pub one-block-fitted : (s : SheetLists) (t : TaskLists) (x : List Float) (value slopes rj rl rp : ℕ)
    → one_block_number s t x (room_in value) (room_in slopes) (number_room_in rj) (number_room_in rl) (room_in rp) ≡ 0
    → Fitted s t x value slopes rj rl rp
unfolding one_block_number record_refusal
one-block-fitted s t x value slopes rj rl rp e =
    let n = joints s.codes in
    let p = first-none _ _ e in
    let q = first-none _ _ p.1 in
    let r = first-none _ _ q.1 in
    let m = first-none _ _ r.1 in
    let u = first-none _ _ m.0 in
    let v = first-none _ _ u.1 in
    let k : Taken s t x = task-taken s t x (p.0, m.1) in
    record {
      accepted = (p.0, m.1);
      few = omega (arith, k.block, k.few);
      entries = (task-counted s t.goals t.history x p.0).entries;
      value_room = omega (arith, bytes_fit 1 value (room_in value) refl q.0);
      slopes-room = omega (arith, k.block, bytes_fit n slopes (room_in slopes) refl r.0);
      joints-room = omega (arith, room-passed (entries_in s) (number_room_in rj) u.0, number-room-within rj);
      links-room = omega (arith, room-passed (entries_in s) (number_room_in rl) v.0, number-room-within rl);
      poses-room = bytes_fit (7 * entries_in s) rp (room_in rp) refl v.1;
    }

-- ---- how long the record is
pub joints-in-length : (s : SheetLists) → length (record_joints_in s) ≡ entries_in s
unfolding record_joints_in
joints-in-length s = length-joints (links_of s.sizes) s.codes

pub links-in-length : (s : SheetLists) → length (record_links_in s) ≡ entries_in s
unfolding record_links_in
links-in-length s = length-links (links_of s.sizes) s.codes

pub poses-in-length : (s : SheetLists) (x : List Float) → length (record_poses_in s x) ≡ 7 * entries_in s
unfolding record_poses_in
poses-in-length s x = length-poses (links_of s.sizes) s.codes s.floats x
