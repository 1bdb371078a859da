-- Laws of the byte calls on an arm sheet, for their proofs.
use Rattle.std.specs.Prelude.{◌≡◌, refl, List, ℕ, ◌*◌, ◌≤◌, Float, length}
use Rattle.std.proofs.Common.{sym, ap, ◌∙◌, arith, length-take-le}
use Rattle.lists.specs.Splice.{splice}
use Rattle.lists.specs.Runs.{length_runs}
use Rattle.geometry.specs.declared.pose.Pose.{Pose}
use Rattle.sheet.specs.Chain.{chain-start-total}
use Rattle.spacetime.specs.Walk.{pose_of}
use Rattle.spacetime.specs.Frames.{positions_of, rotations_of, ends_of, chain_end, positions-length, rotations-length, end-length}
use Rattle.refusals.specs.Lengths.{positions_length, rotations_length, ends_length, history_length, positions-sum, rotations-sum, positions-most, rotations-most, ends-most}
use Rattle.refusals.specs.Lowest.{first_of, first-none}
use Rattle.refusals.specs.Refusal.{links_of, load_refusal, block_refusal, history_refusal, room_refusal}
use Rattle.refusals.specs.Passed.{load-first, load-passed, block-passed, history-passed, room-passed, room-enough}
use Rattle.calls.specs.Arms.{Accepted, if_taken, arms-passed, taken}
use Rattle.calls.specs.Frames.{frames_refusal, pose_refusal, frames-room, pose-room}
use Rattle.lent_bytes.specs.Lent.{Front, room_in, room_within, front}
use Rattle.lent_bytes.specs.SheetLists.{SheetLists, sheet_with}
use Rattle.arm_bytes.specs.ArmCalls.{load_number, frame_positions, frame_rotations, end_poses}

-- what an accepted sheet gives a call on it
pub sheet-accepted : (s : SheetLists) → load_number s ≡ 0 → Accepted (links_of s.sizes) s.codes s.floats
sheet-accepted s e =
    arms-passed s.sizes s.codes s.floats (first-none _ _ (sym (load-first s.sizes s.codes s.floats s.limits) ∙ e)).0

-- the same, of its lists
pub load-accepted : (sizes codes : List ℕ) (floats limits : List Float) → load_refusal sizes codes floats limits ≡ 0 → Accepted (links_of sizes) codes floats
load-accepted sizes codes floats limits e = sheet-accepted (sheet_with sizes codes floats limits) e

-- its sizes list starts with its chains
pub load-some : (sizes codes : List ℕ) (floats limits : List Float) → load_refusal sizes codes floats limits ≡ 0 → 1 ≤ length sizes
load-some sizes codes floats limits e = let s = (load-passed sizes codes floats limits e).0.sized in omega (arith, s.counted)

-- the walk's lists have room for every sheet
module _ (sizes codes : List ℕ) (floats limits : List Float) (e : load_refusal sizes codes floats limits ≡ 0) where
  arms : Accepted (links_of sizes) codes floats
  arms = load-accepted sizes codes floats limits e

  pub positions-room : room_refusal (positions_length (links_of sizes)) 204 ≡ 0
  positions-room = room-enough _ 204 (positions-most (links_of sizes) arms.chains.few (omega (arith, arms.whole, arms.links)))

  pub rotations-room : room_refusal (rotations_length (links_of sizes)) 288 ≡ 0
  rotations-room = room-enough _ 288 (rotations-most (links_of sizes) arms.chains.few (omega (arith, arms.whole, arms.links)))

  pub ends-room : room_refusal (ends_length (links_of sizes)) 28 ≡ 0
  ends-room = room-enough _ 28 (ends-most (links_of sizes) arms.chains.few)

-- what an accepted sheet gives, to the search
pub ruleset sheets = (load-accepted, load-some)

pub ruleset walks = (load-accepted, positions-room, rotations-room, ends-room)

pub frames-number : (ns cs : List ℕ) (gs x : List Float) (p r seven first second : ℕ) → Accepted ns cs gs → seven ≡ frames_refusal ns cs x 204 288
    → first ≡ room_refusal (positions_length ns) p → second ≡ room_refusal (rotations_length ns) r
    → first_of seven (first_of first second) ≡ frames_refusal ns cs x p r
unfolding frames_refusal
frames-number ns cs gs x p r seven first second a e₁ e₂ e₃ =
    let e : seven ≡ block_refusal cs x = e₁ ∙ frames-room ns cs x a.chains.few (omega (arith, a.whole, a.links)) in
    cc

pub pose-number : (ns cs : List ℕ) (gs x : List Float) (n seven first : ℕ) → Accepted ns cs gs → seven ≡ pose_refusal ns cs x 28
    → first ≡ room_refusal (ends_length ns) n → first_of seven first ≡ pose_refusal ns cs x n
unfolding pose_refusal
pose-number ns cs gs x n seven first a e₁ e₂ =
    let e : seven ≡ block_refusal cs x = e₁ ∙ pose-room ns cs x a.chains.few in
    cc

-- the bytes of what has room
pub bytes_fit : (needed n room : ℕ) → room ≡ room_in n → room_refusal needed room ≡ 0 → 8 * needed ≤ n
bytes_fit needed n room e z = omega (arith, room-passed needed room z, room_within n)

-- the lists of floats are as long as they are asked to be
pub frame-positions-length : (ns : List ℕ) (P : ℕ → Pose) → length (positions_of ns P) ≡ positions_length ns
unfolding positions_of
frame-positions-length ns P = positions-length ns P (length ns) ∙ omega (arith, positions-sum ns, chain-start-total ns)

pub frame-rotations-length : (ns : List ℕ) (P : ℕ → Pose) → length (rotations_of ns P) ≡ rotations_length ns
unfolding rotations_of
frame-rotations-length ns P = rotations-length ns P (length ns) ∙ omega (arith, rotations-sum ns, chain-start-total ns)

pub end-poses-length : (ns : List ℕ) (tools : List Float) (P : ℕ → Pose) → length (ends_of ns tools P) ≡ ends_length ns
unfolding ends_of ends_length
end-poses-length ns tools P = length_runs (chain_end ns tools P) 7 (end-length ns tools P) 0 (length ns) ∙ omega arith

-- what an accepted call wrote at the front of a list
pub made : {A : Type 0} (r : ℕ) (xs ys zs : List A) (n : ℕ) → r ≡ 0 → ys ≡ if_taken r xs (splice xs 0 zs) → length zs ≡ n → n ≤ length ys → Front zs ys n
made r xs ys zs n z e l h =
    record { within = h; sized = sym (length-take-le n ys h); held = front xs ys zs n (e ∙ taken r xs (splice xs 0 zs) z) l }

-- ---- laws: the front of a list that the walk of a sheet wrote
module _ (s : SheetLists) (ns : List ℕ) (x xs ys : List Float) (n : ℕ) (e : 0 ≡ load_number s) (counted : ns ≡ links_of s.sizes) where
  good : Accepted (links_of s.sizes) s.codes s.floats
  good = sheet-accepted s (sym e)

  pub positions-front : n ≡ positions_length ns → ys ≡ if_taken 0 xs (splice xs 0 (positions_of ns (pose_of ns s.codes s.floats x))) → length ys ≡ 204
      → Front (frame_positions s x) ys n
  unfolding frame_positions
  positions-front l w long =
      let l' : n ≡ positions_length (links_of s.sizes) = l ∙ ap positions_length counted in
      made 0 xs ys _ n refl (w ∙ ap (λ (ms : List ℕ). if_taken 0 xs (splice xs 0 (positions_of ms (pose_of ms s.codes s.floats x)))) counted)
      (frame-positions-length _ _ ∙ sym l')
      (omega (arith, long, l', positions-most (links_of s.sizes) good.chains.few (omega (arith, good.whole, good.links))))

  pub rotations-front : n ≡ rotations_length ns → ys ≡ if_taken 0 xs (splice xs 0 (rotations_of ns (pose_of ns s.codes s.floats x))) → length ys ≡ 288
      → Front (frame_rotations s x) ys n
  unfolding frame_rotations
  rotations-front l w long =
      let l' : n ≡ rotations_length (links_of s.sizes) = l ∙ ap rotations_length counted in
      made 0 xs ys _ n refl (w ∙ ap (λ (ms : List ℕ). if_taken 0 xs (splice xs 0 (rotations_of ms (pose_of ms s.codes s.floats x)))) counted)
      (frame-rotations-length _ _ ∙ sym l')
      (omega (arith, long, l', rotations-most (links_of s.sizes) good.chains.few (omega (arith, good.whole, good.links))))

  pub ends-front : (tools : List Float) → n ≡ ends_length ns → ys ≡ if_taken 0 xs (splice xs 0 (ends_of ns tools (pose_of ns s.codes s.floats x))) → length ys ≡ 28
      → Front (end_poses s tools x) ys n
  unfolding end_poses
  ends-front tools l w long =
      let l' : n ≡ ends_length (links_of s.sizes) = l ∙ ap ends_length counted in
      made 0 xs ys _ n refl (w ∙ ap (λ (ms : List ℕ). if_taken 0 xs (splice xs 0 (ends_of ms tools (pose_of ms s.codes s.floats x)))) counted)
      (end-poses-length _ _ _ ∙ sym l')
      (omega (arith, long, l', ends-most (links_of s.sizes) good.chains.few))

-- ---- laws: what an accepted update is lent
pub update-fits : (sizes codes : List ℕ) (floats limits h x : List Float) (needed n room : ℕ) → load_refusal sizes codes floats limits ≡ 0 → block_refusal codes x ≡ 0
    → history_refusal codes h ≡ 0 → needed ≡ history_length codes → room ≡ room_in n → room_refusal needed room ≡ 0
    → (length x ≤ 16) × (length h ≡ 4 * length x) × (8 * (4 * length x) ≤ n)
update-fits sizes codes floats limits h x needed n room e b k l r z =
    let a = load-accepted sizes codes floats limits e in
    let m = block-passed codes x b in
    (omega (arith, m, a.few), omega (arith, m, history-passed codes h k), omega (arith, m, l, bytes_fit needed n room r z))

pub ruleset updates = (load-accepted, update-fits)
