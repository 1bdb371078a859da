-- Laws of the byte calls on the objective, for their proofs.
use Rattle.std.specs.Prelude.{◌≡◌, refl, List, ℕ, ◌*◌, ◌≤◌, Float}
use Rattle.std.proofs.Common.{sym, ap, ◌∙◌, subst, arith}
use Rattle.std.proofs.Math.ListN.{length, take}
use Rattle.std.proofs.Math.Seq.{take_all}
use Rattle.sheet.specs.Chain.{joints}
use Rattle.task.specs.declared.picks.Picks.{Picks}
use Rattle.task.specs.Task.{part, task_length, given_of, part_length}
use Rattle.task.specs.Laid.{Apart, apart_in, laid, Fit, Full, given_apart, laid-given}
use Rattle.refusals.specs.Lowest.{first-none}
use Rattle.refusals.specs.Refusal.{links_of}
use Rattle.refusals.specs.Passed.{load-passed, block-passed, history-passed, goals-passed, weights-passed}
use Rattle.gradient.specs.Gradient.{slopes-length}
use Rattle.gradient.specs.Ready.{Ready}
use Rattle.gradient.specs.declared.slopes.Rule.{Rule}
use Rattle.calls.specs.AcceptedTask.{ready_of, load-task}
use Rattle.lent_bytes.specs.Lent.{room_in}
use Rattle.lent_bytes.specs.SheetLists.{SheetLists, same-two, same-three}
use Rattle.arm_bytes.specs.ArmLaws.{bytes_fit}
use Rattle.objective_bytes.specs.ObjectiveCalls.{TaskLists, task_number, optional_number, slopes_number, given_lent, slopes_in}

-- nothing but an output is left to refuse
abbrev pub Passed : SheetLists → TaskLists → List Float → Type 0
Passed s t x = (task_number s t.goals t.history x ≡ 0) × (optional_number s t ≡ 0)

-- what a call then knows
pub record Taken (s : SheetLists) (t : TaskLists) (x : List Float) : Type 0 where
  pub block : length x ≡ joints s.codes
  pub few : joints s.codes ≤ 16
  pub blocks : length t.history ≡ 4 * joints s.codes
  pub pairs : length s.limits ≡ 2 * joints s.codes
  pub each : length t.goals ≡ 13 * length (links_of s.sizes)
  pub eight : length t.weights ≡ 8
  pub chains : length (links_of s.sizes) ≤ 4
  pub ready : (task : List Float) → length task ≡ task_length → Ready (links_of s.sizes) s.codes task s.floats x

pub task-taken : (s : SheetLists) (t : TaskLists) (x : List Float) → Passed s t x → Taken s t x
unfolding task_number optional_number
task-taken s t x p =
    let a = first-none _ _ p.0 in
    let b = first-none _ _ a.1 in
    let d = first-none _ _ b.0 in
    let l = load-passed s.sizes s.codes s.floats s.limits a.0 in
    record {
      block = block-passed s.codes x d.0;
      few = l.0.moving;
      blocks = history-passed s.codes t.history d.1;
      pairs = l.1;
      each = goals-passed _ t.goals b.1 ∙ ap (λ (n : ℕ). 13 * n) (sym l.0.sized.long);
      eight = weights-passed t.weights (first-none _ _ p.1).0;
      chains = omega (arith, l.0.sized.long, l.0.sized.few);
      ready = λ task w. ready_of (links_of s.sizes) s.codes task s.floats x (load-task s.sizes s.codes task s.floats w s.limits a.0) d.0;
    }

-- ---- the list that such a call lays, of tools for four chains
module _ (s : SheetLists) (t : TaskLists) (x : List Float) (k : Taken s t x) (four : length t.tools ≡ 32) where
  abbrev N : ℕ
  N = joints s.codes

  abbrev lists : ℕ → Apart
  lists n = apart_in t.weights s.limits t.goals t.history t.tools n

  -- the blocks of the history
  block₀ : length (part 0 N t.history) ≡ N
  block₀ = part_length 0 N t.history (omega (arith, k.blocks))

  block₁ : length (part N N t.history) ≡ N
  block₁ = part_length N N t.history (omega (arith, k.blocks))

  block₂ : length (part (2 * N) N t.history) ≡ N
  block₂ = part_length (2 * N) N t.history (omega (arith, k.blocks))

  fit : Fit (lists N)
  fit =
      record {
        weights = omega (arith, k.eight);
        limits = omega (arith, k.pairs, k.few);
        goals = omega (arith, k.each, k.chains);
        xopt = omega (arith, block₀, k.few);
        prev_state = omega (arith, block₁, k.few);
        prev_state2 = omega (arith, block₂, k.few);
        tools = omega (arith, four);
      }

  full : Full (links_of s.sizes) s.codes (lists N)
  full =
      record {
        weights = omega (arith, k.eight);
        limits = omega (arith, k.pairs);
        goals = omega (arith, k.each);
        xopt = omega (arith, block₀);
        prev_state = omega (arith, block₁);
        prev_state2 = omega (arith, block₂);
        tools = omega (arith, four, k.chains);
      }

  -- each list but the tools is lent as long as it is in use
  apart-taken : (p : Picks) → given_apart (links_of s.sizes) s.codes (lists N) p ≡ given_lent s t p
  unfolding given_apart given_lent
  apart-taken p =
      let e₁ : take 8 t.weights ≡ t.weights = take_all 8 t.weights (omega (arith, k.eight)) in
      let e₂ : take (2 * N) s.limits ≡ s.limits = take_all (2 * N) s.limits (omega (arith, k.pairs)) in
      let e₃ : take (13 * length (links_of s.sizes)) t.goals ≡ t.goals = take_all (13 * length (links_of s.sizes)) t.goals (omega (arith, k.each)) in
      let e₄ : take N (part 0 N t.history) ≡ part 0 N t.history = take_all N (part 0 N t.history) (omega (arith, block₀)) in
      let e₅ : take N (part N N t.history) ≡ part N N t.history = take_all N (part N N t.history) (omega (arith, block₁)) in
      let e₆ : take N (part (2 * N) N t.history) ≡ part (2 * N) N t.history = take_all N (part (2 * N) N t.history) (omega (arith, block₂)) in
      rw (e₁, e₂, e₃, e₄, e₅, e₆)

  -- as a call asks for it, which lays blocks as long as the joints
  pub fit-taken : Fit (lists (length x))
  fit-taken = subst (λ n. Fit (lists n)) (sym k.block) fit

  -- the objective finds in it what is lent
  pub laid-taken : (p : Picks) (ns : List ℕ) (old task : List Float) → ns ≡ links_of s.sizes → length old ≡ task_length → task ≡ laid (lists (length x)) old
      → given_of ns s.codes task p ≡ given_lent s t p
  laid-taken p ns old task e w h =
      same-two (λ ns' t'. given_of ns' s.codes t' p) e (h ∙ ap (λ n. laid (lists n) old) k.block)
      ∙ laid-given (lists N) old w fit (links_of s.sizes) s.codes p full k.chains k.few
      ∙ apart-taken p

  pub ready-taken : (ns : List ℕ) (task : List Float) → ns ≡ links_of s.sizes → length task ≡ task_length → Ready ns s.codes task s.floats x
  ready-taken ns task e w = subst (λ ns'. Ready ns' s.codes task s.floats x) (sym e) (k.ready task w)

-- as many slopes as joints
pub slopes-in-length : (rule : Rule) (s : SheetLists) (t : TaskLists) (p : Picks) (x : List Float) → length (slopes_in rule s t p x) ≡ length x
unfolding slopes_in
slopes-in-length rule s t p x = slopes-length rule (given_lent s t p) s.floats x

-- lists that are equal
pub same-four : {A B C D E : Type 0} (f : A → B → C → D → E) {a a' : A} {b b' : B} {c c' : C} {d d' : D} → a ≡ a' → b ≡ b' → c ≡ c' → d ≡ d' → f a b c d ≡ f a' b' c' d'
same-four f {a' = a'} {b' = b'} {c' = c'} {d = d} p q r t = same-three (λ a b c. f a b c d) p q r ∙ ap (f a' b' c') t

-- what a gradient knows that is accepted with outputs of so many bytes
pub record Fitted (s : SheetLists) (t : TaskLists) (x : List Float) (a b d : ℕ) : Type 0 where
  pub accepted : Passed s t x
  pub few : length x ≤ 16
  pub scratch : 8 * length x ≤ a
  pub value : 8 ≤ b
  pub slopes : 8 * length x ≤ d

pub slopes-fitted : (s : SheetLists) (t : TaskLists) (x : List Float) (a b d : ℕ) → slopes_number s t x (room_in a) (room_in b) (room_in d) ≡ 0
    → Fitted s t x a b d
unfolding slopes_number
slopes-fitted s t x a b d e =
    let n = joints s.codes in
    let p = first-none _ _ e in
    let q = first-none _ _ p.1 in
    let r = first-none _ _ q.1 in
    let u = first-none _ _ r.1 in
    let k : Taken s t x = task-taken s t x (p.0, u.1) in
    record {
      accepted = (p.0, u.1);
      few = omega (arith, k.block, k.few);
      scratch = omega (arith, k.block, bytes_fit n a (room_in a) refl q.0);
      value = omega (arith, bytes_fit 1 b (room_in b) refl r.0);
      slopes = omega (arith, k.block, bytes_fit n d (room_in d) refl u.0);
    }
