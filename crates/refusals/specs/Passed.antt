-- What a number says: 0, all that callers rely on; any other, the lowest condition that holds.
use Rattle.std.specs.Prelude.{◌≡◌, refl, Bool, true, false, cond, ◌||◌, List, [], ◌∷◌, ℕ, suc, ◌+◌, ◌*◌, ◌≤◌, ◌<◌, leb, ltb, eqb, Float, length, get_or}
use Rattle.std.proofs.Common.{sym, ◌∙◌, arith, length-drop, ltb-true, ltb-false, le-ltb, lt-ltb, leb-true, eqb-true, ne_eqb}
use Rattle.std.proofs.Math.Path.{ap}
use Rattle.std.proofs.lemmas.Bool.{not-false}
use Rattle.sheet.specs.Chain.{total, joints, chain_length}
use Rattle.lists.specs.Tests.{and-true}
use Rattle.refusals.specs.Range.{every-at, between}
use Rattle.refusals.specs.Lowest.{lowest_from, lowest, lowest-found, lowest-none, none-lowest, lowest-most, first_of, first-zero, first-is, first-none}
use Rattle.refusals.specs.Refusal.{chains_of, links_of, links_fit, bad_sizes, bad_lengths, listed_code, listed_at, bad_codes, two_joints, later_fits, bad_joints, bad_limits, bad_floats, bad_block, bad_history, bad_goals, bad_weights, bad_tool, shape_conditions, shape_refusal, sheet_conditions, load_conditions, sizing_conditions, load_refusal, sizing_refusal, block_refusal, history_refusal, goals_refusal, room_refusal, weights_refusal, tool_refusal}

-- ---- loading: the number is that of the lowest condition that holds, and 0 exactly if none does
module _ (sizes codes : List ℕ) (floats limits : List Float) where
  pub load_found : (k : ℕ) → load_refusal sizes codes floats limits ≡ suc k
      → (get_or (load_conditions sizes codes floats limits) k false ≡ true)
      × ((i : ℕ) → i < k → get_or (load_conditions sizes codes floats limits) i false ≡ false)
  unfolding load_refusal
  load_found k e = lowest-found k (load_conditions sizes codes floats limits) e

  pub load-none : load_refusal sizes codes floats limits ≡ 0 → (i : ℕ) → get_or (load_conditions sizes codes floats limits) i false ≡ false
  unfolding load_refusal
  load-none e = lowest-none (load_conditions sizes codes floats limits) e

  pub none-load : ((i : ℕ) → i < 6 → get_or (load_conditions sizes codes floats limits) i false ≡ false) → load_refusal sizes codes floats limits ≡ 0
  unfolding load_refusal
  none-load f = none-lowest (load_conditions sizes codes floats limits) f

six : (a b c d e f : Bool) → lowest (a ∷ b ∷ c ∷ d ∷ e ∷ f ∷ [])
    ≡ first_of (lowest (a ∷ b ∷ c ∷ d ∷ [])) (first_of (cond e 5 0) (cond f 6 0))
unfolding lowest lowest_from first_of
six true b c d e f = refl
six false true c d e f = refl
six false false true d e f = refl
six false false false true e f = refl
six false false false false true f = refl
six false false false false false true = refl
six false false false false false false = refl

-- the first four do not ask for the limits
pub sheet-first : (sizes codes : List ℕ) (floats : List Float) (five : Bool) → lowest (sheet_conditions sizes codes floats five)
    ≡ first_of (shape_refusal sizes codes (length floats)) (first_of (cond five 5 0) (cond (bad_floats (length codes) floats) 6 0))
unfolding shape_refusal
sheet-first sizes codes floats five = six _ _ _ _ _ _

pub load-first : (sizes codes : List ℕ) (floats limits : List Float) → load_refusal sizes codes floats limits
    ≡ first_of (shape_refusal sizes codes (length floats))
    (first_of (cond (bad_limits (joints codes) limits) 5 0) (cond (bad_floats (length codes) floats) 6 0))
unfolding load_refusal
load-first sizes codes floats limits = sheet-first sizes codes floats (bad_limits (joints codes) limits)

-- ---- sizing: what loading asks, but for the limits
pub sizing-first : (sizes codes : List ℕ) (floats : List Float) → sizing_refusal sizes codes floats
    ≡ first_of (shape_refusal sizes codes (length floats)) (cond (bad_floats (length codes) floats) 6 0)
unfolding sizing_refusal
sizing-first sizes codes floats =
    sheet-first sizes codes floats false
    ∙ ap (first_of (shape_refusal sizes codes (length floats))) (first-zero 0 (cond (bad_floats (length codes) floats) 6 0) refl)

module _ (sizes codes : List ℕ) (floats limits : List Float) where
  -- with good limits both get the same number
  pub load-as-sizing : bad_limits (joints codes) limits ≡ false → load_refusal sizes codes floats limits ≡ sizing_refusal sizes codes floats
  unfolding load_refusal sizing_refusal
  load-as-sizing good = ap (λ (five : Bool). lowest (sheet_conditions sizes codes floats five)) good

  -- a sheet that loading takes is taken by sizing
  pub load-sizing : load_refusal sizes codes floats limits ≡ 0 → sizing_refusal sizes codes floats ≡ 0
  load-sizing e = sym (load-as-sizing (load-none sizes codes floats limits e 4)) ∙ e

  -- one that sizing takes, with good limits, by loading
  pub sizing-load : sizing_refusal sizes codes floats ≡ 0 → bad_limits (joints codes) limits ≡ false → load_refusal sizes codes floats limits ≡ 0
  sizing-load e good = load-as-sizing good ∙ e

-- ---- the sizes list
or-none : (a b : Bool) → (a || b) ≡ false → (a ≡ false) × (b ≡ false)
or-none true b e = (e, absurd (let z : ◌≡◌ {A = ℕ} 0 1 = cc in omega arith))
or-none false b e = (refl, e)

between_is : (low high n : ℕ) → between low high n ≡ true → (low ≤ n) × (n ≤ high)
unfolding between
between_is low high n e = let b = and-true (leb low n) (leb n high) e in (leb-true low n b.0, leb-true n high b.1)

total-most : (ns : List ℕ) → ((c : ℕ) → c < length ns → get_or ns c 0 ≤ 16) → total ns ≤ 16 * length ns
unfolding total
total-most [] f = omega arith
total-most (n ∷ ns) f = omega (arith, f 0 (omega arith), total-most ns (λ c h. f (suc c) (omega arith)))

-- what the sizes list says
pub record Sizes (sizes : List ℕ) : Type 0 where
  pub counted : length sizes ≡ chains_of sizes + 1
  pub some : 1 ≤ chains_of sizes
  pub few : chains_of sizes ≤ 4
  pub long : length (links_of sizes) ≡ chains_of sizes
  pub links : (c : ℕ) → c < chains_of sizes → (1 ≤ get_or (links_of sizes) c 0) × (get_or (links_of sizes) c 0 ≤ 16)
  pub most : total (links_of sizes) ≤ 64

pub sizes-passed : (sizes : List ℕ) → bad_sizes sizes ≡ false → Sizes sizes
unfolding bad_sizes links_fit
sizes-passed sizes e =
    let ns = links_of sizes in
    let a = or-none _ _ e in
    let b = or-none _ _ a.0 in
    let d = or-none (eqb (length sizes) 0) _ b.0 in
    let counted : length sizes ≡ chains_of sizes + 1 = eqb-true _ _ (not-false _ d.1) in
    let chains : (1 ≤ chains_of sizes) × (chains_of sizes ≤ 4) = between_is 1 4 _ (not-false _ b.1) in
    let long : length ns ≡ chains_of sizes = omega (arith, counted, length-drop 1 sizes) in
    let each : (c : ℕ) → c < length ns → (1 ≤ get_or ns c 0) × (get_or ns c 0 ≤ 16) = λ c h. between_is 1 16 _ (every-at (links_fit ns) (length ns) c (not-false _ a.1) h) in
    record {
      counted = counted;
      some = chains.0;
      few = chains.1;
      long = long;
      links = λ c h. each c (omega (arith, long));
      most = omega (arith, long, chains.1, total-most ns (λ c h. (each c h).1));
    }

-- ---- the sheet without its limits
pub lengths-passed : (ns codes : List ℕ) (floats : ℕ) → bad_lengths ns codes floats ≡ false → (length codes ≡ total ns) × (floats ≡ 7 * total ns)
unfolding bad_lengths
lengths-passed ns codes floats e =
    let a = or-none _ _ e in
    (eqb-true _ _ (not-false _ a.0), eqb-true _ _ (not-false _ a.1))

-- what lengths and codes say
pub record Shape (sizes codes : List ℕ) (floats : ℕ) : Type 0 where
  pub sized : Sizes sizes
  pub whole : total (links_of sizes) ≡ length codes
  pub most : length codes ≤ 64
  pub wide : floats ≡ 7 * length codes
  pub listed : (l : ℕ) → l < length codes → listed_code (get_or codes l 0) ≡ true
  pub two : (c : ℕ) → c < chains_of sizes → 2 ≤ chain_length (links_of sizes) codes c
  pub moving : joints codes ≤ 16
  pub later : (c : ℕ) → 0 < c → c < chains_of sizes → chain_length (links_of sizes) codes c ≤ get_or (links_of sizes) 0 0

later-is : (ns codes : List ℕ) (c : ℕ) → later_fits ns codes c ≡ true → 0 < c → chain_length ns codes c ≤ get_or ns 0 0
unfolding later_fits
later-is ns codes c e h = leb-true _ _ (rw (ne_eqb c 0 (λ z. omega arith)) at e)

pub shape-passed : (sizes codes : List ℕ) (floats : ℕ) → shape_refusal sizes codes floats ≡ 0 → Shape sizes codes floats
unfolding shape_refusal bad_codes listed_at bad_joints two_joints
shape-passed sizes codes floats e =
    let ns = links_of sizes in
    let none : (i : ℕ) → get_or (shape_conditions sizes codes floats) i false ≡ false = lowest-none _ e in
    let s : Sizes sizes = sizes-passed sizes (none 0) in
    let l : (length codes ≡ total ns) × (floats ≡ 7 * total ns) = lengths-passed ns codes floats (none 1) in
    let a = or-none _ _ (none 3) in
    let b = or-none _ _ a.0 in
    record {
      sized = s;
      whole = sym l.0;
      most = omega (arith, l.0, s.most);
      wide = l.1 ∙ ap (λ (n : ℕ). 7 * n) (sym l.0);
      listed = λ i h. every-at (listed_at codes) (length codes) i (not-false _ (none 2)) h;
      two = λ c h. leb-true 2 _ (every-at (two_joints ns codes) (length ns) c (not-false _ b.0) (omega (arith, s.long)));
      moving = ltb-false 16 _ b.1;
      later = λ c h k. later-is ns codes c (every-at (later_fits ns codes) (length ns) c (not-false _ a.1) (omega (arith, s.long))) h;
    }

-- ---- what is lent beside it
-- a test that was passed
passed : (b : Bool) (k : ℕ) → cond b (suc k) 0 ≡ 0 → b ≡ false
passed true k e = absurd (omega arith)
passed false k e = refl

pub limits-passed : (joints : ℕ) (limits : List Float) → bad_limits joints limits ≡ false → length limits ≡ 2 * joints
unfolding bad_limits
limits-passed joints limits e = eqb-true _ _ (not-false _ (or-none _ _ e).0)

pub load-passed : (sizes codes : List ℕ) (floats limits : List Float) → load_refusal sizes codes floats limits ≡ 0
    → Shape sizes codes (length floats) × (length limits ≡ 2 * joints codes)
load-passed sizes codes floats limits e =
    let a = first-none _ _ (sym (load-first sizes codes floats limits) ∙ e) in
    (shape-passed sizes codes (length floats) a.0, limits-passed (joints codes) limits (load-none sizes codes floats limits e 4))

pub block-passed : (codes : List ℕ) (x : List Float) → block_refusal codes x ≡ 0 → length x ≡ joints codes
unfolding block_refusal bad_block
block-passed codes x e = eqb-true _ _ (not-false _ (or-none _ _ (passed _ 6 e)).0)

pub history-passed : (codes : List ℕ) (history : List Float) → history_refusal codes history ≡ 0 → length history ≡ 4 * joints codes
unfolding history_refusal bad_history
history-passed codes history e = eqb-true _ _ (not-false _ (or-none _ _ (passed _ 6 e)).0)

pub goals-passed : (chains : ℕ) (goals : List Float) → goals_refusal chains goals ≡ 0 → length goals ≡ 13 * chains
unfolding goals_refusal bad_goals
goals-passed chains goals e = eqb-true _ _ (not-false _ (or-none _ _ (passed _ 7 e)).0)

pub room-passed : (needed have : ℕ) → room_refusal needed have ≡ 0 → needed ≤ have
unfolding room_refusal
room-passed needed have e = ltb-false have needed (passed _ 8 e)

pub weights-passed : (ws : List Float) → weights_refusal ws ≡ 0 → length ws ≡ 8
unfolding weights_refusal bad_weights
weights-passed ws e = eqb-true _ _ (not-false _ (or-none _ _ (passed _ 9 e)).0)

-- a list of another length
pub weights-misfit : (ws : List Float) → (length ws ≡ 8 → ⊥) → weights_refusal ws ≡ 10
unfolding weights_refusal bad_weights
weights-misfit ws h = rw (ne_eqb (length ws) 8 h)

pub tool-passed : (chains c : ℕ) (tool : List Float) → tool_refusal chains c tool ≡ 0 → (c < chains) × (length tool ≡ 7)
unfolding tool_refusal bad_tool
tool-passed chains c tool e =
    let a = or-none _ _ (passed _ 10 e) in
    let b = or-none _ _ a.0 in
    (ltb-true _ _ (not-false _ b.0), eqb-true _ _ (not-false _ b.1))

-- a list with room for all that is needed
pub room-enough : (needed have : ℕ) → needed ≤ have → room_refusal needed have ≡ 0
unfolding room_refusal
room-enough needed have h = rw (le-ltb have needed h)

-- one that is too short
pub room-short : (needed have : ℕ) → have < needed → room_refusal needed have ≡ 9
unfolding room_refusal
room-short needed have h = rw (lt-ltb have needed h)

-- also behind another list
pub room-behind : (needed have k : ℕ) → k ≡ 9 → first_of (room_refusal needed have) k ≡ 9
unfolding room_refusal
room-behind needed have k q = pick (ltb have needed)
  where
    pick : (t : Bool) → first_of (cond t 9 0) k ≡ 9
    pick true = first-is 9 k 8 refl
    pick false = first-zero 0 k refl ∙ q

-- ---- how high the numbers before 9 are
test-most : (t : Bool) (k : ℕ) → cond t k 0 ≤ k
test-most true k = omega arith
test-most false k = omega arith

pub load-most : (sizes codes : List ℕ) (floats limits : List Float) → load_refusal sizes codes floats limits ≤ 6
unfolding load_refusal
load-most sizes codes floats limits = lowest-most (load_conditions sizes codes floats limits)

pub sizing-most : (sizes codes : List ℕ) (floats : List Float) → sizing_refusal sizes codes floats ≤ 6
unfolding sizing_refusal
sizing-most sizes codes floats = lowest-most (sizing_conditions sizes codes floats)

pub block-most : (codes : List ℕ) (x : List Float) → block_refusal codes x ≤ 7
unfolding block_refusal
block-most codes x = test-most (bad_block codes x) 7

pub history-most : (codes : List ℕ) (history : List Float) → history_refusal codes history ≤ 7
unfolding history_refusal
history-most codes history = test-most (bad_history codes history) 7

pub goals-most : (chains : ℕ) (goals : List Float) → goals_refusal chains goals ≤ 8
unfolding goals_refusal
goals-most chains goals = test-most (bad_goals chains goals) 8

-- a sheet's number, and what passing its conditions says
pub ruleset sheets = (load-first, sizing-first, sizes-passed, lengths-passed, shape-passed)
