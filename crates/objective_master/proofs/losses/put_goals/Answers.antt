use mathlib.Core.Path.{◌≡◌, refl, sym, ap, ◌∙◌}
use mathlib.Core.List.{List}
use Prim.Native.Nat.{ℕ, ◌+◌, ◌*◌, ◌≤◌, ◌<◌}
use native.Mathlib.Nat.{suc-mul, mul-le-mul_right}
use native.Mathlib.Omega.{arith}
use lib.Ieee.{Float}
use lib.ListN.{length, get_or}
use Rattle.lists.specs.Splice.{splice}
use Rattle.lists.specs.Runs.{runs, length_runs, splice-none, splice-turn-at}
use Rattle.sheet.specs.Chain.{total, chain_start, chain-start-next}
use Rattle.spacetime.specs.Frames.{chain-within}
use Rattle.geometry.specs.declared.pose.Pose.{Pose}
use Rattle.manipulability.specs.View.{seen_by}
use Rattle.objective_master.specs.Objective.{goal_width}
use Rattle.objective_master.specs.Losses.{goal_losses, goal-length}
use Rattle.objective_master.specs.Cached.{end_again, piece-turn, goal-is, goal-cached}
use Rattle.objective_master.proofs.losses.put_goals.Goals as goal

-- a chain's losses end within those of all
fits : (w n k : ℕ) → k < n → (k + 1) * w ≤ n * w
fits w n k h = omega (arith, suc-mul k w, mul-le-mul_right w h)

pub loop-c-init : goal.loop-c-init
unfolding chain_start
loop-c-init c = (refl, splice-none (goal_losses _ _ _ _ _) _ 0 0)

pub overflow_add-end : goal.overflow_add-end
overflow_add-end c =
    let within : chain_start c.args.counts.now c.loop-c.c + get_or c.args.counts.now c.loop-c.c 0 ≤ total c.args.counts.now = chain-within c.args.counts.now c.loop-c.c (omega arith) in
    omega (arith, within)

pub overflow_sub-end : goal.overflow_sub-end
overflow_sub-end c =
    let some : 0 < get_or c.args.counts.now c.loop-c.c 0 = c.requires.chains.0.some c.loop-c.c (omega arith) in
    omega (arith, some)

pub put_goal-requires : goal.put_goal-requires
put_goal-requires c =
    let within : chain_start c.args.counts.now c.loop-c.c + get_or c.args.counts.now c.loop-c.c 0 ≤ total c.args.counts.now = chain-within c.args.counts.now c.loop-c.c (omega arith) in
    let some : 0 < get_or c.args.counts.now c.loop-c.c 0 = c.requires.chains.0.some c.loop-c.c (omega arith) in
    let a = c.args in
    let ns = a.counts.now in
    let G = a.goals.now in
    let T = a.tools.now in
    let W = a.poses in
    let strict = a.picks.strict in
    let w = goal_width strict in
    let P : ℕ → Pose = seen_by W in
    let v = c.requires.view in
    let i = c.loop-c.c in
    let at = c.goals_to-at.result in
    let e : at ≡ i * w = c.goals_to-at.ensures.0 in
    let fit : (i + 1) * w ≤ length ns * w = fits w (length ns) i (omega arith) in
    let z : (i + 1) * w ≡ i * w + w = omega arith in record {
      c_in_bounds = (omega (arith, c.requires.chains), omega (arith, c.requires.chains), omega (arith, c.requires.cached_pieces.room));
      view = record { first = omega (arith, v.first, within, some); again = v.again };
      cached_piece = goal-cached strict ns G T P W.from W.to i c.loop-c.l at c.loop-c.out c.loop-c.invariant.0
          (piece-turn (goal_losses strict ns G T P) w (goal-length strict ns G T P) (end_again ns W.from W.to) 0 (length ns) a.out.now c.loop-c.out i at c.requires.cached_pieces c.loop-c.invariant.1 (omega arith) fit (omega (arith, e)));
    }

pub loop-c-preserved : goal.loop-c-preserved
loop-c-preserved c =
    let a = c.args in
    let ns = a.counts.now in
    let W = a.poses in
    let strict = a.picks.strict in
    let w = goal_width strict in
    let P : ℕ → Pose = seen_by W in
    let f : ℕ → List Float = goal_losses strict ns a.goals.now a.tools.now P in
    let k = c.loop-c.c in
    let at = c.goals_to-at.result in
    let q : at ≡ k * w = c.goals_to-at.ensures.0 in
    let e : c.put_goal.new.out ≡ splice c.loop-c.out at (f k) =
    c.put_goal.ensures ∙ ap (splice c.loop-c.out at) (goal-is strict ns a.goals.now a.tools.now P k c.loop-c.l c.loop-c.invariant.0) in
    let n : length (runs f 0 k) ≡ k * w = length_runs f w (goal-length strict ns a.goals.now a.tools.now P) 0 k in
    let fit : (k + 1) * w ≤ length ns * w = fits w (length ns) k (omega arith) in
    let z : (k + 1) * w ≡ k * w + w = omega arith in
    let room = c.requires.cached_pieces.room in (
      ap (λ (m : ℕ). m + get_or ns k 0) c.loop-c.invariant.0 ∙ sym (chain-start-next ns k),
      splice-turn-at f a.out.now c.loop-c.out _ 0 at k c.loop-c.invariant.1 (omega arith) (omega (arith, room)) e,
    )

pub returns : goal.returns
returns c =
    let a = c.args in
    let f : ℕ → List Float = goal_losses a.picks.strict a.counts.now a.goals.now a.tools.now (seen_by a.poses) in
    let e : c.loop-c.c ≡ length a.counts.now = omega arith in
    c.loop-c.invariant.1 ∙ ap (λ (k : ℕ). splice a.out.now 0 (runs f 0 k)) e
