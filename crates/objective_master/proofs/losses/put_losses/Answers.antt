-- `put_losses` meets its contract: section after section, each behind those before it.
use mathlib.Core.Path.{◌≡◌, sym, ap, ap₂, subst, ◌∙◌}
use mathlib.Core.Bool.{Bool}
use mathlib.Core.List.{List}
use Prim.Native.Nat.{ℕ, ◌+◌, ◌*◌}
use native.Mathlib.Omega.{arith}
use lib.Ieee.{Float}
use lib.ListN.{length}
use Rattle.lists.specs.Splice.{splice}
use Rattle.lists.specs.Runs.{runs}
use Rattle.geometry.specs.declared.pose.Pose.{Pose}
use Rattle.sheet.specs.Chain.{joints}
use Rattle.manipulability.specs.View.{seen_by}
use Rattle.self_collision.specs.Pairs.{CachedPairs, first_arm, chain_lengths, pair_losses, pair_lasts}
use Rattle.task.specs.Task.{Given, given_of, limits_of, xopt_of, prev_state_of, prev_state2_of}
use Rattle.objective_master.specs.Objective.{goal_width}
use Rattle.objective_master.specs.Losses.{goal_losses, limit_losses, motion_losses}
use Rattle.objective_master.specs.Cached.{CachedPieces, end_again, is_raised, goals-cached, limits-cached, pairs-cached, enough, length-one, behind-one, length_two, length_three, behind-three, losses-made}
use Rattle.objective_master.proofs.losses.put_losses.Goals as goal

-- what each section's call wrote, of the lists that are given
goals-written : (G : Given) (P : ℕ → Pose) (o new gs ts : List Float) → gs ≡ G.goals → ts ≡ G.tools
    → new ≡ splice o 0 (runs (goal_losses G.picks.strict G.counts gs ts P) 0 (length G.counts))
    → new ≡ splice o 0 (runs (goal_losses G.picks.strict G.counts G.goals G.tools P) 0 (length G.counts))
goals-written G P o new gs ts a b e = e ∙ ap₂ (λ (gs ts : List Float). splice o 0 (runs (goal_losses G.picks.strict G.counts gs ts P) 0 (length G.counts))) a b

limits-written : (G : Given) (x o new ls : List Float) (n : ℕ) → ls ≡ G.limits
    → new ≡ splice o n (runs (limit_losses ls x) 0 (length x)) → new ≡ splice o n (runs (limit_losses G.limits x) 0 (length x))
limits-written G x o new ls n a e = e ∙ ap (λ (ls : List Float). splice o n (runs (limit_losses ls x) 0 (length x))) a

motion-written : (task : List Float) (P : ℕ → Pose) (ns cs : List ℕ) (x o new : List Float) (n : ℕ) → length x ≡ joints cs
    → new ≡ splice o n (motion_losses P ns cs x (xopt_of (length x) task) (prev_state_of (length x) task) (prev_state2_of (length x) task))
    → new ≡ splice o n (motion_losses P ns cs x (xopt_of (joints cs) task) (prev_state_of (joints cs) task) (prev_state2_of (joints cs) task))
motion-written task P ns cs x o new n v e =
    e ∙ ap (λ (m : ℕ). splice o n (motion_losses P ns cs x (xopt_of m task) (prev_state_of m task) (prev_state2_of m task))) v

pub put_goals-requires : goal.put_goals-requires
unfolding given_of
put_goals-requires c =
    let a = c.args in
    let ns = a.counts.now in
    let G : Given = given_of ns a.codes.now a.task.now a.picks in
    let W = a.poses in
    let P : ℕ → Pose = seen_by W in
    let X = a.x.now in
    let o = a.out.now in
    let t = c.requires.lent in
    let w = t.paired.counted.whole in
    let v = t.values in record {
      chains = (t.chains, omega (arith, c.goals-goals.ensures.1), omega (arith, c.tools-tools.ensures.1));
      view = record { first = omega (arith, t.view.first, w); again = t.view.again };
      cached_pieces = subst (λ (gs : List Float). CachedPieces (goal_losses a.picks.strict ns gs c.tools-tools.result.now P) (goal_width a.picks.strict) (end_again ns W.from W.to) 0 (length ns) o) (sym c.goals-goals.ensures.0)
          (subst (λ (ts : List Float). CachedPieces (goal_losses a.picks.strict ns G.goals ts P) (goal_width a.picks.strict) (end_again ns W.from W.to) 0 (length ns) o) (sym c.tools-tools.ensures.0) (goals-cached G P X W.from W.to a.raised o c.requires.cached w v));
    }

pub put_limits-requires : goal.put_limits-requires
unfolding given_of
put_limits-requires c =
    let a = c.args in
    let ns = a.counts.now in
    let G : Given = given_of ns a.codes.now a.task.now a.picks in
    let W = a.poses in
    let P : ℕ → Pose = seen_by W in
    let X = a.x.now in
    let o = a.out.now in
    let t = c.requires.lent in
    let w = t.paired.counted.whole in
    let v = t.values in
    let n : ℕ = c.goals_to-n.result in
    let e : n ≡ length ns * goal_width a.picks.strict = c.goals_to-n.ensures.0 in
    let e₁ = goals-written G P o _ _ _ c.goals-goals.ensures.0 c.tools-tools.ensures.0 c.put_goals.ensures in
    let q : c.limits-limits.result.now ≡ G.limits = c.limits-limits.ensures.0 ∙ ap (λ (m : ℕ). limits_of m a.task.now) v in record {
      x_in_bounds = omega (arith, c.limits-limits.ensures.1);
      cached_pieces = subst (λ (ls : List Float). CachedPieces (limit_losses ls X) 1 (is_raised a.raised) (n) (length X) c.put_goals.new.out) (sym q)
          (limits-cached G P X W.from W.to a.raised o c.requires.cached w v _ (length-one G P X o _ w v c.requires.cached.room e₁) n e (λ i h. behind-one G P X o _ w v c.requires.cached.room e₁ i (omega (arith, e))));
    }

pub put_motion-requires : goal.put_motion-requires
unfolding given_of
put_motion-requires c =
    let a = c.args in
    let ns = a.counts.now in
    let G : Given = given_of ns a.codes.now a.task.now a.picks in
    let W = a.poses in
    let P : ℕ → Pose = seen_by W in
    let X = a.x.now in
    let o = a.out.now in
    let t = c.requires.lent in
    let w = t.paired.counted.whole in
    let v = t.values in
    let n : ℕ = c.goals_to-n.result in
    let e : n ≡ length ns * goal_width a.picks.strict = c.goals_to-n.ensures.0 in
    let e₁ = goals-written G P o _ _ _ c.goals-goals.ensures.0 c.tools-tools.ensures.0 c.put_goals.ensures in
    let q : c.limits-limits.result.now ≡ G.limits = c.limits-limits.ensures.0 ∙ ap (λ (m : ℕ). limits_of m a.task.now) v in
    let e₂ = limits-written G X _ _ _ n q c.put_limits.ensures in record {
      task_len = (t.whole, omega (arith, v, t.paired.counted.few), omega (arith, enough G P X o _ w v c.requires.cached.room e₁, length_two G P X o _ w v c.requires.cached.room e₁ _ n e e₂, e));
      counted = (t.paired.counted, t.view);
    }

pub overflow_add-m-2 : goal.overflow_add-m-2
unfolding given_of
overflow_add-m-2 c =
    let a = c.args in
    let ns = a.counts.now in
    let G : Given = given_of ns a.codes.now a.task.now a.picks in
    let W = a.poses in
    let P : ℕ → Pose = seen_by W in
    let X = a.x.now in
    let o = a.out.now in
    let t = c.requires.lent in
    let w = t.paired.counted.whole in
    let v = t.values in
    let e₁ = goals-written G P o _ _ _ c.goals-goals.ensures.0 c.tools-tools.ensures.0 c.put_goals.ensures in
    omega (arith, c.well_formed, c.requires.cached.room, enough G P X o _ w v c.requires.cached.room e₁, c.goals_to-n.ensures.0)

pub put_pairs-requires : goal.put_pairs-requires
unfolding given_of
put_pairs-requires c =
    let a = c.args in
    let ns = a.counts.now in
    let G : Given = given_of ns a.codes.now a.task.now a.picks in
    let W = a.poses in
    let P : ℕ → Pose = seen_by W in
    let X = a.x.now in
    let o = a.out.now in
    let t = c.requires.lent in
    let w = t.paired.counted.whole in
    let v = t.values in
    let n : ℕ = c.goals_to-n.result in
    let e : n ≡ length ns * goal_width a.picks.strict = c.goals_to-n.ensures.0 in
    let e₁ = goals-written G P o _ _ _ c.goals-goals.ensures.0 c.tools-tools.ensures.0 c.put_goals.ensures in
    let q : c.limits-limits.result.now ≡ G.limits = c.limits-limits.ensures.0 ∙ ap (λ (m : ℕ). limits_of m a.task.now) v in
    let e₂ = limits-written G X _ _ _ n q c.put_limits.ensures in
    let e₃ = motion-written a.task.now P ns a.codes.now X _ _ (n + length X) v c.put_motion.ensures in
    let o₃ : List Float = c.put_motion.new.out in
    let lens : List ℕ = chain_lengths ns a.codes.now in
    let r : n + length X ≡ length ns * goal_width a.picks.strict + length X = ap (λ (m : ℕ). m + length X) e in
    let at : ℕ = n + length X + 4 in
    let z : at ≡ length ns * goal_width a.picks.strict + length X + 4 = ap (λ (m : ℕ). m + length X + 4) e in record {
      paired = (t.paired, t.view);
      cached_pairs = subst (λ (b : Bool). CachedPairs (pair_lasts ns first_arm lens) (pair_losses ns P first_arm lens b) W.from at o₃) (sym c.any_nan-any_nan.ensures)
          (pairs-cached G P X W.from W.to a.raised o c.requires.cached w v _ (length_three G P X o _ w v c.requires.cached.room e₁ _ n e e₂ _ _ r e₃) at z (λ i h. behind-three G P X o _ w v c.requires.cached.room e₁ _ n e e₂ _ _ r e₃ i (omega (arith, e))));
    }

pub returns : goal.returns
unfolding given_of
returns c =
    let a = c.args in
    let ns = a.counts.now in
    let G : Given = given_of ns a.codes.now a.task.now a.picks in
    let W = a.poses in
    let P : ℕ → Pose = seen_by W in
    let X = a.x.now in
    let o = a.out.now in
    let t = c.requires.lent in
    let w = t.paired.counted.whole in
    let v = t.values in
    let n : ℕ = c.goals_to-n.result in
    let e : n ≡ length ns * goal_width a.picks.strict = c.goals_to-n.ensures.0 in
    let e₁ = goals-written G P o _ _ _ c.goals-goals.ensures.0 c.tools-tools.ensures.0 c.put_goals.ensures in
    let q : c.limits-limits.result.now ≡ G.limits = c.limits-limits.ensures.0 ∙ ap (λ (m : ℕ). limits_of m a.task.now) v in
    let e₂ = limits-written G X _ _ _ n q c.put_limits.ensures in
    let e₃ = motion-written a.task.now P ns a.codes.now X _ _ (n + length X) v c.put_motion.ensures in
    let o₃ : List Float = c.put_motion.new.out in
    let r : n + length X ≡ length ns * goal_width a.picks.strict + length X = ap (λ (m : ℕ). m + length X) e in
    let at : ℕ = n + length X + 4 in
    let z : at ≡ length ns * goal_width a.picks.strict + length X + 4 = ap (λ (m : ℕ). m + length X + 4) e in
    losses-made G P X o _ w v c.requires.cached.room e₁ _ n e e₂ _ _ r e₃ _ at z
    (c.put_pairs.ensures ∙ ap (λ (b : Bool). splice o₃ at (pair_losses ns P first_arm (chain_lengths ns a.codes.now) b)) c.any_nan-any_nan.ensures)
