use mathlib.Core.Path.{◌≡◌, refl, ap, ◌∙◌}
use Prim.Native.Nat.{ℕ, ◌+◌, ◌-◌}
use native.Mathlib.Omega.{arith}
use Rattle.lists.specs.Splice.{splice}
use Rattle.lists.specs.Runs.{runs, length_runs, splice-start, splice-turn}
use Rattle.manipulability.specs.View.{seen_by}
use Rattle.self_collision.specs.Pairs.{pair_at, pairs_from, loss_from, last_from, row-length, cached-turn, view-part}
use Rattle.self_collision.proofs.pairs.put_row.Goals as goal

pub loop-k-init : goal.loop-k-init
loop-k-init c =
    let a = c.args in
    let loss = loss_from (seen_by a.poses) a.first a.any_nan in
    (omega arith, omega arith, splice-start (pair_at loss a.j) 1 (λ k. refl) a.out.now a.at (a.j + 2))

pub put_pair-requires : goal.put_pair-requires
unfolding pairs_from
put_pair-requires c =
    let a = c.args in
    let i = c.loop-k.invariant in
    let loss = loss_from (seen_by a.poses) a.first a.any_nan in
    let m : ℕ = c.loop-k.k - (a.j + 2) in record {
      view = (view-part _ _ _ _ (a.first + a.n) (a.first + c.loop-k.k + 1) c.requires.view.0 (omega arith), omega arith);
      cached_pairs = cached-turn (pair_at (last_from a.first) a.j) (pair_at loss a.j) (λ k. refl) a.poses.from a.out.now c.loop-k.out a.at c.loop-k.p (a.j + 2) (a.n - (a.j + 2)) m c.loop-k.k
          (omega arith) (omega arith) i.2 (omega (arith, i.1, length_runs (pair_at loss a.j) 1 (λ k. refl) (a.j + 2) m)) c.requires.cached_pairs;
    }

pub overflow_add-p : goal.overflow_add-p
overflow_add-p c =
    let a = c.args in
    let loss = loss_from (seen_by a.poses) a.first a.any_nan in
    omega (arith, c.loop-k.invariant, c, c.requires.cached_pairs.room, row-length loss a.n a.j)

pub loop-k-preserved : goal.loop-k-preserved
loop-k-preserved c =
    let a = c.args in
    let i = c.loop-k.invariant in
    let loss = loss_from (seen_by a.poses) a.first a.any_nan in (
      omega arith,
      omega arith,
      splice-turn (pair_at loss a.j) 1 (λ k. refl) a.out.now c.loop-k.out _ a.at c.loop-k.p (a.j + 2) c.loop-k.k i.0 i.2 (omega (arith, i.1))
          (omega (arith, c.requires.cached_pairs.room, row-length loss a.n a.j, c)) c.put_pair.ensures,
    )

pub returns : goal.returns
unfolding pairs_from
returns c =
    let a = c.args in
    let j = a.j in
    let i = c.loop-k.invariant in
    let loss = loss_from (seen_by a.poses) a.first a.any_nan in
    let e : c.loop-k.k - (j + 2) ≡ a.n - (j + 2) = omega arith in record {
      value = omega arith;
      out_after = i.2 ∙ ap (λ (m : ℕ). splice a.out.now a.at (runs (pair_at loss j) (j + 2) m)) e;
    }
