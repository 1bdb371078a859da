-- A byte list that is ragged, or longer than any that is taken, is refused with that list's number: sizes 1, codes and floats 2, limits 5,
-- joints and history 7, goals 8; a ragged output 9. Lower numbers come first, as ever.
use Rattle.std.specs.Prelude.{◌≡◌, refl, Bool, true, false, cond, not, List, [], ◌∷◌, ℕ, suc, ◌*◌, ◌%◌, ◌≤◌, eqb, Float, length, get_or}
use Rattle.std.proofs.Common.{ap, ◌∙◌, arith, ne_eqb, lt-ltb}
use Rattle.std.proofs.Math.Bool.{or-true}
use Rattle.sheet.specs.Chain.{total, chain_start, joint_of, joints, joint-mono, joint-last, chain-start-mono, chain-start-total, chain_length}
use Rattle.refusals.specs.Lengths.{ends_length, history_length, plan_length, positions-sum, rotations-sum}
use Rattle.refusals.specs.Lowest.{lowest_from, lowest, first_of, first-zero, first-is}
use Rattle.refusals.specs.Refusal.{chains_of, links_of, bad_sizes, bad_lengths, bad_limits, bad_floats, bad_block, bad_history, bad_goals, shape_refusal, sizing_refusal, block_refusal, history_refusal, goals_refusal, room_refusal}
use Rattle.refusals.specs.Passed.{Sizes, Shape, sizes-passed, load-first, sizing-first, load-passed, shape-passed, room-behind}
use Rattle.calls.specs.Frames.{frames_refusal, pose_refusal}
use Rattle.lent_bytes.specs.Lent.{Misfit, floats_in, room_in, number_room_in, no-numbers, no_floats}
use Rattle.lent_bytes.specs.SheetLists.{SheetLists, sheet_with, sizes_from, codes_from, link_floats_from}
use Rattle.arm_bytes.specs.ArmCalls.{load_number, sizing_number, set_goals_number, frames_number, pose_number, update_number, reset_number, manipulability_number}

-- ---- the sheet's lists: 1 and 2, whichever call is lent them
module _ (sizes codes : List ℕ) (floats : List Float) (k : ℕ) (e : shape_refusal sizes codes (length floats) ≡ suc k) where
  load-shape : (limits : List Float) → load_number (sheet_with sizes codes floats limits) ≡ suc k
  load-shape limits = load-first sizes codes floats limits ∙ first-is _ _ k e

  sizing-shape : (room : ℕ) → sizing_number sizes codes floats room ≡ suc k
  unfolding sizing_number
  sizing-shape room = first-is _ _ k (sizing-first sizes codes floats ∙ first-is _ _ k e)

module _ (b codes : List ℕ) (floats : List Float) (m : Misfit 2 5 (length b)) where
  one : shape_refusal (sizes_from b) codes (length floats) ≡ 1
  unfolding shape_refusal lowest lowest_from bad_sizes
  one = rw (no-numbers 5 b m)

  pub ragged-sizes : (limits : List Float) → load_number (sheet_with (sizes_from b) codes floats limits) ≡ 1
  ragged-sizes = load-shape (sizes_from b) codes floats 0 one

  pub sizing-ragged-sizes : (room : ℕ) → sizing_number (sizes_from b) codes floats room ≡ 1
  sizing-ragged-sizes = sizing-shape (sizes_from b) codes floats 0 one

first-le : (ns : List ℕ) → get_or ns 0 0 ≤ total ns
unfolding total
first-le [] = omega arith
first-le (n ∷ ns) = omega arith

-- sizes that pass give at least one link
total-some : (sizes : List ℕ) → bad_sizes sizes ≡ false → 1 ≤ total (links_of sizes)
total-some sizes e =
    let s : Sizes sizes = sizes-passed sizes e in
    omega (arith, s.some, (s.links 0 s.some).0, first-le (links_of sizes))

two-first : (sizes codes : List ℕ) (n : ℕ) → bad_sizes sizes ≡ false → bad_lengths (links_of sizes) codes n ≡ true → shape_refusal sizes codes n ≡ 2
unfolding shape_refusal lowest lowest_from
two-first sizes codes n e q = rw (e, q)

no-codes : (ns : List ℕ) (n : ℕ) → 1 ≤ total ns → bad_lengths ns [] n ≡ true
unfolding bad_lengths
no-codes ns n h = rw (ne_eqb 0 (total ns) (λ z. omega arith))

module _ (sizes b : List ℕ) (floats : List Float) (e : bad_sizes sizes ≡ false) (m : Misfit 2 64 (length b)) where
  two : shape_refusal sizes (codes_from b) (length floats) ≡ 2
  two = rw (no-numbers 64 b m) (two-first sizes [] (length floats) e (no-codes (links_of sizes) (length floats) (total-some sizes e)))

  pub ragged-codes : (limits : List Float) → load_number (sheet_with sizes (codes_from b) floats limits) ≡ 2
  ragged-codes = load-shape sizes (codes_from b) floats 1 two

  pub sizing-ragged-codes : (room : ℕ) → sizing_number sizes (codes_from b) floats room ≡ 2
  sizing-ragged-codes = sizing-shape sizes (codes_from b) floats 1 two

no-link-floats : (ns codes : List ℕ) → 1 ≤ total ns → bad_lengths ns codes 0 ≡ true
unfolding bad_lengths
no-link-floats ns codes h = rw (ne_eqb 0 (7 * total ns) (λ z. omega arith)) (or-true (not (eqb (length codes) (total ns))))

module _ (sizes codes b : List ℕ) (e : bad_sizes sizes ≡ false) (m : Misfit 8 448 (length b)) where
  none : shape_refusal sizes codes (length (link_floats_from b)) ≡ 2
  none = rw (no_floats 448 b m) (two-first sizes codes 0 e (no-link-floats (links_of sizes) codes (total-some sizes e)))

  pub ragged-floats : (limits : List Float) → load_number (sheet_with sizes codes (link_floats_from b) limits) ≡ 2
  ragged-floats = load-shape sizes codes (link_floats_from b) 1 none

  pub sizing-ragged-floats : (room : ℕ) → sizing_number sizes codes (link_floats_from b) room ≡ 2
  sizing-ragged-floats = sizing-shape sizes codes (link_floats_from b) 1 none

joints-below : (ns codes : List ℕ) → 2 ≤ chain_length ns codes 0 → 2 ≤ joint_of codes (chain_start ns 1)
unfolding chain_length
joints-below ns codes h = omega arith

-- a sheet that passes 1 to 4 has joints
joints-some : (sizes codes : List ℕ) (n : ℕ) → Shape sizes codes n → 2 ≤ joints codes
joints-some sizes codes n s =
    let ns = links_of sizes in
    let two : 2 ≤ chain_length ns codes 0 = s.two 0 s.sized.some in
    let some : 1 ≤ length ns = omega (arith, s.sized.long, s.sized.some) in
    let ends : chain_start ns 1 ≤ length codes = omega (arith, chain-start-mono ns 1 (length ns) some, chain-start-total ns, s.whole) in
    omega (arith, joints-below ns codes two, joint-mono codes (chain_start ns 1) (length codes) ends, joint-last codes)

no-limits : (j : ℕ) → 2 ≤ j → bad_limits j [] ≡ true
unfolding bad_limits
no-limits j h = rw (ne_eqb 0 (2 * j) (λ z. omega arith))

pub ragged-limits : (sizes codes : List ℕ) (floats : List Float) (b : List ℕ) → shape_refusal sizes codes (length floats) ≡ 0 → Misfit 8 32 (length b)
    → load_number (sheet_with sizes codes floats (floats_in 32 b)) ≡ 5
ragged-limits sizes codes floats b e m =
    let some : 2 ≤ joints codes = joints-some sizes codes (length floats) (shape-passed sizes codes (length floats) e) in
    rw (no_floats 32 b m)
    (load-first sizes codes floats []
    ∙ first-zero _ _ e
    ∙ ap (λ (t : Bool). first_of (cond t 5 0) (cond (bad_floats (length codes) floats) 6 0)) (no-limits (joints codes) some)
    ∙ first-is 5 _ 4 refl)

-- ---- the lists beside it, on a sheet that is taken
pub no_block : (cs : List ℕ) → 1 ≤ joints cs → block_refusal cs [] ≡ 7
unfolding block_refusal bad_block
no_block cs h = rw (ne_eqb 0 (joints cs) (λ z. omega arith))

pub no-history : (cs : List ℕ) → 1 ≤ joints cs → history_refusal cs [] ≡ 7
unfolding history_refusal bad_history
no-history cs h = rw (ne_eqb 0 (4 * joints cs) (λ z. omega arith))

pub no-goals : (chains : ℕ) → 1 ≤ chains → goals_refusal chains [] ≡ 8
unfolding goals_refusal bad_goals
no-goals chains h = rw (ne_eqb 0 (13 * chains) (λ z. omega arith))

-- the first number that is not 0
pub after : (a b n k : ℕ) → a ≡ 0 → b ≡ suc k → first_of a (first_of b n) ≡ suc k
after a b n k e q = first-zero a (first_of b n) e ∙ first-is b n k q

-- an output that is ragged has no room
pub ragged-output : (needed n : ℕ) → 1 ≤ needed → (n % 8 ≡ 0 → ⊥) → room_refusal needed (room_in n) ≡ 9
unfolding room_refusal room_in
ragged-output needed n h m = rw (ne_eqb (n % 8) 0 m, lt-ltb 0 needed h)

-- nor one of u16s
pub ragged-numbers : (needed n : ℕ) → 1 ≤ needed → (n % 2 ≡ 0 → ⊥) → room_refusal needed (number_room_in n) ≡ 9
unfolding room_refusal number_room_in
ragged-numbers needed n h m = rw (ne_eqb (n % 2) 0 m, lt-ltb 0 needed h)

pub sizing-ragged-plan : (sizes codes : List ℕ) (floats : List Float) (n : ℕ) → sizing_refusal sizes codes floats ≡ 0 → (n % 2 ≡ 0 → ⊥)
    → sizing_number sizes codes floats (number_room_in n) ≡ 9
unfolding sizing_number
sizing-ragged-plan sizes codes floats n e m = first-zero _ _ e ∙ ragged-numbers plan_length n (omega arith) m

module _ (s : SheetLists) (e : load_number s ≡ 0) where
  pub shape : Shape s.sizes s.codes (length s.floats)
  shape = (load-passed s.sizes s.codes s.floats s.limits e).0

  chained : 1 ≤ length (links_of s.sizes)
  chained = omega (arith, shape.sized.long, shape.sized.some)

  pub moving : 2 ≤ joints s.codes
  moving = joints-some s.sizes s.codes (length s.floats) shape

  pub ragged-goals : (b : List ℕ) → Misfit 8 52 (length b) → set_goals_number s (floats_in 52 b) ≡ 8
  unfolding set_goals_number
  ragged-goals b m =
      rw (no_floats 52 b m) (first-zero _ _ e ∙ no-goals (chains_of s.sizes) shape.sized.some)

  module _ (b : List ℕ) (m : Misfit 8 16 (length b)) where
    seven : block_refusal s.codes (floats_in 16 b) ≡ 7
    seven = rw (no_floats 16 b m) (no_block s.codes (omega (arith, moving)))

    pub frames-ragged-joints : (p r : ℕ) → frames_number s (floats_in 16 b) p r ≡ 7
    unfolding frames_number frames_refusal
    frames-ragged-joints p r = after _ _ _ 6 e seven

    pub pose-ragged-joints : (tools : List Float) (n : ℕ) → pose_number s tools (floats_in 16 b) n ≡ 7
    unfolding pose_number pose_refusal
    pose-ragged-joints tools n = after _ _ _ 6 e (first-is _ _ 6 seven)

    pub manipulability-ragged-joints : (n : ℕ) → manipulability_number s (floats_in 16 b) n ≡ 7
    unfolding manipulability_number
    manipulability-ragged-joints n = after _ _ _ 6 e seven

    pub reset-ragged-joints : (tools : List Float) (h n : ℕ) → reset_number s tools (floats_in 16 b) h n ≡ 7
    unfolding reset_number pose_refusal
    reset-ragged-joints tools h n = after _ _ _ 6 e (first-is _ _ 6 (first-is _ _ 6 seven))

    pub update-ragged-joints : (history : List Float) (n : ℕ) → update_number s history (floats_in 16 b) n ≡ 7
    unfolding update_number
    update-ragged-joints history n = after _ _ _ 6 e (first-is _ _ 6 seven)

  pub update-ragged-history : (x : List Float) (b : List ℕ) (n : ℕ) → block_refusal s.codes x ≡ 0 → Misfit 8 64 (length b)
      → update_number s (floats_in 64 b) x n ≡ 7
  unfolding update_number
  update-ragged-history x b n q m = after _ _ _ 6 e (first-zero _ _ q ∙ rw (no_floats 64 b m) (no-history s.codes (omega (arith, moving))))

  module _ (x : List Float) (q : block_refusal s.codes x ≡ 0) (n : ℕ) (m : n % 8 ≡ 0 → ⊥) where
    pub frames-ragged-positions : (r : ℕ) → frames_number s x (room_in n) r ≡ 9
    unfolding frames_number frames_refusal
    frames-ragged-positions r = first-zero _ _ e ∙ after _ _ _ 8 q (ragged-output _ n (omega (arith, chained, positions-sum (links_of s.sizes))) m)

    pub frames-ragged-rotations : (p : ℕ) → frames_number s x p (room_in n) ≡ 9
    unfolding frames_number frames_refusal
    frames-ragged-rotations p = first-zero _ _ e ∙ first-zero _ _ q ∙ room-behind _ p _ (ragged-output _ n (omega (arith, chained, rotations-sum (links_of s.sizes))) m)

    pub pose-ragged-ends : (tools : List Float) → pose_number s tools x (room_in n) ≡ 9
    unfolding pose_number pose_refusal ends_length
    pose-ragged-ends tools = after _ _ _ 8 e (first-zero _ _ q ∙ ragged-output _ n (omega (arith, chained)) m)

    pub reset-ragged-ends : (tools : List Float) (h : ℕ) → reset_number s tools x h (room_in n) ≡ 9
    unfolding reset_number pose_refusal ends_length
    reset-ragged-ends tools h = after _ _ _ 8 e (first-is _ _ 8 (first-zero _ _ q ∙ ragged-output _ n (omega (arith, chained)) m))

    pub reset-ragged-history : (tools : List Float) (k : ℕ) → reset_number s tools x (room_in n) k ≡ 9
    unfolding reset_number pose_refusal
    reset-ragged-history tools k =
        after _ _ _ 8 e
        (ap (λ (i : ℕ). first_of i (room_refusal (history_length s.codes) (room_in n))) (first-zero _ _ q)
        ∙ room-behind _ k _ (ragged-output _ n (omega (arith, moving)) m))

    pub update-ragged-output : (history : List Float) → history_refusal s.codes history ≡ 0 → update_number s history x (room_in n) ≡ 9
    unfolding update_number
    update-ragged-output history h = first-zero _ _ e ∙ first-zero _ _ (first-zero _ _ q ∙ h) ∙ ragged-output _ n (omega (arith, moving)) m

    pub manipulability-ragged-value : manipulability_number s x (room_in n) ≡ 9
    unfolding manipulability_number
    manipulability-ragged-value = first-zero _ _ e ∙ first-zero _ _ q ∙ ragged-output 1 n (omega arith) m
