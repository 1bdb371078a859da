-- The list as a call lays it: lists that are stored or lent apart, each written to its place.
use Rattle.std.specs.Prelude.{◌≡◌, Float}
use Rattle.std.proofs.Math.Path.{refl, sym, ap}
use Rattle.std.proofs.Common.{◌∙◌, zero-add, arith, take-append-drop, drop_at, drop-drop}
use mathlib.Core.List.{List, ◌++◌, append_assoc}
use Prim.Native.Nat.{ℕ, ◌+◌, ◌-◌, ◌*◌, ◌≤◌}
use Rattle.std.proofs.Math.ListN.{length, take, drop, length-drop}
use Rattle.std.proofs.Math.Seq.{length-take-le, take-append-le}
use Rattle.std.proofs.lemmas.List.{drop-append-le}
use Rattle.lists.specs.Splice.{splice, length-splice}
use Rattle.sheet.specs.Chain.{joints}
use Rattle.task.specs.declared.picks.Picks.{Picks}
use Rattle.task.specs.Task.{part, task_length, Given, given_of}

-- the lists apart
pub record Apart : Type 0 where
  pub weights : List Float
  pub limits : List Float
  pub goals : List Float
  pub xopt : List Float
  pub prev_state : List Float
  pub prev_state2 : List Float
  pub tools : List Float

abbrev pub apart : List Float → List Float → List Float → List Float → List Float → List Float → List Float → Apart
apart weights limits goals xopt prev prev2 tools =
    record { weights = weights; limits = limits; goals = goals; xopt = xopt; prev_state = prev; prev_state2 = prev2; tools = tools }

-- of lists as they are lent: the history is one list, of blocks of n floats
abbrev pub apart_in : List Float → List Float → List Float → List Float → List Float → ℕ → Apart
apart_in weights limits goals history tools n = apart weights limits goals (part 0 n history) (part n n history) (part (2 * n) n history) tools

-- each in its place
unfoldable pub laid : Apart → List Float → List Float
laid a t =
    let t₁ = splice t 0 a.weights in
    let t₂ = splice t₁ 8 a.limits in
    let t₃ = splice t₂ 40 a.goals in
    let t₄ = splice t₃ 92 a.xopt in
    let t₅ = splice t₄ 108 a.prev_state in
    let t₆ = splice t₅ 124 a.prev_state2 in
    splice t₆ 140 a.tools

-- none is longer than its place
pub record Fit (a : Apart) : Type 0 where
  pub weights : length a.weights ≤ 8
  pub limits : length a.limits ≤ 32
  pub goals : length a.goals ≤ 52
  pub xopt : length a.xopt ≤ 16
  pub prev_state : length a.prev_state ≤ 16
  pub prev_state2 : length a.prev_state2 ≤ 16
  pub tools : length a.tools ≤ 32

-- each holds what is in use
pub record Full (ns cs : List ℕ) (a : Apart) : Type 0 where
  pub weights : 8 ≤ length a.weights
  pub limits : 2 * joints cs ≤ length a.limits
  pub goals : 13 * length ns ≤ length a.goals
  pub xopt : joints cs ≤ length a.xopt
  pub prev_state : joints cs ≤ length a.prev_state
  pub prev_state2 : joints cs ≤ length a.prev_state2
  pub tools : 8 * length ns ≤ length a.tools

-- what the objectives look at, of the lists apart: of each its front in use
unfoldable pub given_apart : List ℕ → List ℕ → Apart → Picks → Given
given_apart ns cs a picks =
    record {
      counts = ns;
      codes = cs;
      weights = take 8 a.weights;
      limits = take (2 * joints cs) a.limits;
      goals = take (13 * length ns) a.goals;
      xopt = take (joints cs) a.xopt;
      prev_state = take (joints cs) a.prev_state;
      prev_state2 = take (joints cs) a.prev_state2;
      tools = take (8 * length ns) a.tools;
      picks = picks;
    }

-- ---- laws: a part after a list was written
module _ (t : List Float) (k : ℕ) (ys : List Float) where
  -- to its own place
  pub part-own : (n : ℕ) → k ≤ length t → n ≤ length ys → part k n (splice t k ys) ≡ take n ys
  unfolding part splice
  part-own n h l =
      ap (take n) (drop_at (take k t) (ys ++ drop (k + length ys) t) k (length-take-le k t h)) ∙ take-append-le n ys (drop (k + length ys) t) l

  -- to a place behind it
  pub part-before : (at n : ℕ) → at + n ≤ k → k ≤ length t → part at n (splice t k ys) ≡ part at n t
  unfolding part splice
  part-before at n h l =
      let e : length (drop at (take k t)) ≡ k - at = length-drop at (take k t) ∙ ap (λ (m : ℕ). m - at) (length-take-le k t l) in
      let front : (q : List Float) → take n (drop at (take k t ++ q)) ≡ take n (drop at (take k t)) =
      λ q. ap (take n) (drop-append-le at (take k t) q (omega (arith, length-take-le k t l))) ∙ take-append-le n (drop at (take k t)) q (omega arith) in
      front (ys ++ drop (k + length ys) t) ∙ sym (front (drop k t)) ∙ ap (λ (l : List Float). take n (drop at l)) (take-append-drop k t)

-- a list written to the front of the part `&mut xs[a..]` that was lent is spliced in
pub put-splice : {A : Type 0} (xs : List A) (a k : ℕ) (zs : List A) → a + k ≤ length xs → length zs ≤ k
    → take a xs ++ (splice (take k (drop a xs)) 0 zs ++ drop k (drop a xs)) ≡ splice xs a zs
unfolding splice
put-splice {A} xs a k zs h l =
    let d : List A = drop a xs in
    let m : List A = take k d in
    let n : ℕ = length zs in
    let z : 0 + n ≡ n = zero-add n in
    let ld : length d ≡ length xs - a = length-drop a xs in
    let lm : length m ≡ k = length-take-le k d (omega arith) in
    let join : drop n m ++ drop k d ≡ drop (a + n) xs =
    sym (drop-append-le n m (drop k d) (omega arith)) ∙ ap (drop n) (take-append-drop k d) ∙ drop-drop n a xs in
    ap (λ (i : ℕ). take a xs ++ ((zs ++ drop i m) ++ drop k d)) z
    ∙ ap (λ (y : List A). take a xs ++ y) (append_assoc zs (drop n m) (drop k d) ∙ ap (λ (y : List A). zs ++ y) join)

-- the list after each writing, as long as ever; and a part that ends before a place is as it was before what is written there and behind
module _ (a : Apart) (t : List Float) (whole : length t ≡ task_length) (fit : Fit a) where
  t₁ : List Float
  t₁ = splice t 0 a.weights

  l₁ : length t₁ ≡ task_length
  unfolding t₁
  l₁ = length-splice t 0 a.weights (omega arith) ∙ whole

  t₂ : List Float
  t₂ = splice t₁ 8 a.limits

  l₂ : length t₂ ≡ task_length
  unfolding t₂
  l₂ = length-splice t₁ 8 a.limits (omega (arith, l₁)) ∙ l₁

  t₃ : List Float
  t₃ = splice t₂ 40 a.goals

  l₃ : length t₃ ≡ task_length
  unfolding t₃
  l₃ = length-splice t₂ 40 a.goals (omega (arith, l₂)) ∙ l₂

  t₄ : List Float
  t₄ = splice t₃ 92 a.xopt

  l₄ : length t₄ ≡ task_length
  unfolding t₄
  l₄ = length-splice t₃ 92 a.xopt (omega (arith, l₃)) ∙ l₃

  t₅ : List Float
  t₅ = splice t₄ 108 a.prev_state

  l₅ : length t₅ ≡ task_length
  unfolding t₅
  l₅ = length-splice t₄ 108 a.prev_state (omega (arith, l₄)) ∙ l₄

  t₆ : List Float
  t₆ = splice t₅ 124 a.prev_state2

  l₆ : length t₆ ≡ task_length
  unfolding t₆
  l₆ = length-splice t₅ 124 a.prev_state2 (omega (arith, l₅)) ∙ l₅

  t₇ : List Float
  t₇ = splice t₆ 140 a.tools

  l₇ : length t₇ ≡ task_length
  unfolding t₇
  l₇ = length-splice t₆ 140 a.tools (omega (arith, l₆)) ∙ l₆

  after₇ : (at n : ℕ) → at + n ≤ task_length → part at n (laid a t) ≡ part at n t₇
  unfolding laid t₁ t₂ t₃ t₄ t₅ t₆ t₇
  after₇ at n h = refl

  after₆ : (at n : ℕ) → at + n ≤ 140 → part at n (laid a t) ≡ part at n t₆
  unfolding t₇
  after₆ at n h = after₇ at n (omega arith) ∙ part-before t₆ 140 a.tools at n h (omega (arith, l₆))

  after₅ : (at n : ℕ) → at + n ≤ 124 → part at n (laid a t) ≡ part at n t₅
  unfolding t₆
  after₅ at n h = after₆ at n (omega arith) ∙ part-before t₅ 124 a.prev_state2 at n h (omega (arith, l₅))

  after₄ : (at n : ℕ) → at + n ≤ 108 → part at n (laid a t) ≡ part at n t₄
  unfolding t₅
  after₄ at n h = after₅ at n (omega arith) ∙ part-before t₄ 108 a.prev_state at n h (omega (arith, l₄))

  after₃ : (at n : ℕ) → at + n ≤ 92 → part at n (laid a t) ≡ part at n t₃
  unfolding t₄
  after₃ at n h = after₄ at n (omega arith) ∙ part-before t₃ 92 a.xopt at n h (omega (arith, l₃))

  after₂ : (at n : ℕ) → at + n ≤ 40 → part at n (laid a t) ≡ part at n t₂
  unfolding t₃
  after₂ at n h = after₃ at n (omega arith) ∙ part-before t₂ 40 a.goals at n h (omega (arith, l₂))

  after₁ : (at n : ℕ) → at + n ≤ 8 → part at n (laid a t) ≡ part at n t₁
  unfolding t₂
  after₁ at n h = after₂ at n (omega arith) ∙ part-before t₁ 8 a.limits at n h (omega (arith, l₁))

  -- what the objectives look at, of a list that was laid
  pub laid-given : (ns cs : List ℕ) (picks : Picks) → Full ns cs a → length ns ≤ 4 → joints cs ≤ 16 → given_of ns cs (laid a t) picks ≡ given_apart ns cs a picks
  unfolding given_of given_apart t₁ t₂ t₃ t₄ t₅ t₆ t₇
  laid-given ns cs picks full few moving =
      let n : ℕ = joints cs in
      let e₁ : part 0 8 (laid a t) ≡ take 8 a.weights = after₁ 0 8 (omega arith) ∙ part-own t 0 a.weights 8 (omega arith) (omega arith) in
      let e₂ : part 8 (2 * n) (laid a t) ≡ take (2 * n) a.limits = after₂ 8 (2 * n) (omega arith) ∙ part-own t₁ 8 a.limits (2 * n) (omega (arith, l₁)) (omega arith) in
      let e₃ : part 40 (13 * length ns) (laid a t) ≡ take (13 * length ns) a.goals = after₃ 40 (13 * length ns) (omega arith) ∙ part-own t₂ 40 a.goals (13 * length ns) (omega (arith, l₂)) (omega arith) in
      let e₄ : part 92 n (laid a t) ≡ take n a.xopt = after₄ 92 n (omega arith) ∙ part-own t₃ 92 a.xopt n (omega (arith, l₃)) (omega arith) in
      let e₅ : part 108 n (laid a t) ≡ take n a.prev_state = after₅ 108 n (omega arith) ∙ part-own t₄ 108 a.prev_state n (omega (arith, l₄)) (omega arith) in
      let e₆ : part 124 n (laid a t) ≡ take n a.prev_state2 = after₆ 124 n (omega arith) ∙ part-own t₅ 124 a.prev_state2 n (omega (arith, l₅)) (omega arith) in
      let e₇ : part 140 (8 * length ns) (laid a t) ≡ take (8 * length ns) a.tools = after₇ 140 (8 * length ns) (omega arith) ∙ part-own t₆ 140 a.tools (8 * length ns) (omega (arith, l₆)) (omega arith) in
      rw (e₁, e₂, e₃, e₄, e₅, e₆, e₇)
