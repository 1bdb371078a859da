-- What the objective and its gradients ask of what is lent to them, and their refusals.
use Rattle.std.specs.Prelude.{◌≡◌, List, ℕ, ◌≤◌, Float, length}
use Rattle.std.proofs.Common.{sym, ◌∙◌, arith}
use Rattle.lists.specs.Splice.{splice}
use Rattle.sheet.specs.Chain.{joints}
use Rattle.lists.specs.Lent.{LentOutput, output_lent}
use Rattle.task.specs.Task.{task_length}
use Rattle.self_collision.specs.Pairs.{Paired, paired_is}
use Rattle.refusals.specs.Lengths.{scratch_length, slopes_length}
use Rattle.refusals.specs.Lowest.{first_of, first-none}
use Rattle.refusals.specs.Refusal.{links_of, shape_refusal, load_refusal, block_refusal, room_refusal}
use Rattle.refusals.specs.Passed.{Shape, shape-passed, load-first, block-passed, room-passed}
use Rattle.objective_master.specs.Call.{TwoJoints}
use Rattle.gradient.specs.Ready.{Ready}
use Rattle.calls.specs.Arms.{Accepted, if_taken, arms-passed, sheet-of}

-- an accepted sheet with its floats gs, and the list with its weights, limits, goals, history and tools: all but the joints
pub record AcceptedTask (ns cs : List ℕ) (task gs : List Float) : Type 0 where
  pub arms : Accepted ns cs gs
  pub paired : Paired ns cs
  pub two : TwoJoints ns cs
  pub whole : length task ≡ task_length

-- a gradient of joints x with a scratch list and a list of slopes, of so many floats: 7, then 9
unfoldable pub slopes_refusal : List ℕ → List Float → ℕ → ℕ → ℕ
slopes_refusal cs x scratch slopes = first_of (block_refusal cs x) (first_of (room_refusal (scratch_length cs) scratch) (room_refusal (slopes_length cs) slopes))

-- a list that a call with refusal number n is lent, at exit: ys in its front, or as it was where the call is refused
abbrev pub FrontIfTaken : {A : Type 0} → ℕ → LentOutput A → List A → Type 0
FrontIfTaken n xs ys = xs.exit.now ≡ if_taken n (output_lent xs) (splice (output_lent xs) 0 ys)

-- ---- laws: what an accepted call knows
pub ready_of : (ns cs : List ℕ) (task gs x : List Float) → AcceptedTask ns cs task gs → block_refusal cs x ≡ 0 → Ready ns cs task gs x
ready_of ns cs task gs x a e =
    record {
      sheet = sheet-of ns cs gs x a.arms e;
      chains = a.arms.chains;
      paired = a.paired;
      two = a.two;
      whole = a.whole;
    }

pub slopes-passed : (cs : List ℕ) (x : List Float) (scratch slopes : ℕ) → slopes_refusal cs x scratch slopes ≡ 0
    → (block_refusal cs x ≡ 0) × (length x ≤ scratch) × (length x ≤ slopes)
unfolding slopes_refusal
slopes-passed cs x scratch slopes e =
    let a = first-none _ _ e in
    let b = first-none _ _ a.1 in
    let n : length x ≡ joints cs = block-passed cs x a.0 in
    (a.0, omega (arith, n, room-passed _ scratch b.0), omega (arith, n, room-passed _ slopes b.1))

-- ---- laws: a sheet that loading takes is such a sheet
pub shape-paired : (sizes cs : List ℕ) (floats : ℕ) → Shape sizes cs floats → Paired (links_of sizes) cs
shape-paired sizes cs floats s =
    paired_is (links_of sizes) cs (record { whole = s.whole; few = s.moving }) (λ c later h. s.later c later (omega (arith, s.sized.long)))

pub shape_two : (sizes cs : List ℕ) (floats : ℕ) → Shape sizes cs floats → TwoJoints (links_of sizes) cs
shape_two sizes cs floats s c h = s.two c (omega (arith, s.sized.long))

module _ (sizes cs : List ℕ) (task gs : List Float) (whole : length task ≡ task_length) where
  pub shape-task : shape_refusal sizes cs (length gs) ≡ 0 → AcceptedTask (links_of sizes) cs task gs
  shape-task e =
      let s : Shape sizes cs (length gs) = shape-passed sizes cs (length gs) e in
      record {
        arms = arms-passed sizes cs gs e;
        paired = shape-paired sizes cs (length gs) s;
        two = shape_two sizes cs (length gs) s;
        whole = whole;
      }

  pub load-task : (limits : List Float) → load_refusal sizes cs gs limits ≡ 0 → AcceptedTask (links_of sizes) cs task gs
  load-task limits e = shape-task (first-none _ _ (sym (load-first sizes cs gs limits) ∙ e)).0

-- what an accepted call on two blocks knows
pub ruleset tasks = (ready_of, slopes-passed)
