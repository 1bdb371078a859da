use mathlib.Core.Path.{◌≡◌, sym, ap, ◌∙◌}
use Prim.Native.Nat.{ℕ, ◌+◌, ◌-◌}
use native.Mathlib.Omega.{arith}
use lib.ListN.{length}
use Rattle.lists.specs.Splice.{splice}
use Rattle.lists.specs.Runs.{runs, runs_none, runs-fits, splice-none, splice-turn-at}
use Rattle.manipulability.specs.View.{seen_by}
use Rattle.self_collision.specs.Pairs.{pairs_from, pairs_of, loss_from, last_from, row-length, pair-count, count-more, cached-turn}
use Rattle.self_collision.proofs.pairs.put_chain.Goals as goal

pub loop-j-init : goal.loop-j-init
loop-j-init c =
    let a = c.args in
    let f = pairs_from (loss_from (seen_by a.poses) a.first a.any_nan) a.n in
    (omega (arith, ap length (runs_none f 0)), splice-none f a.out.now a.at 0)

pub put_row-p-requires : goal.put_row-p-requires
unfolding pairs_of
put_row-p-requires c =
    let a = c.args in
    let i = c.loop-j.invariant in
    let loss = loss_from (seen_by a.poses) a.first a.any_nan in record {
      view = (c.requires.view, omega arith);
      cached_pairs = cached-turn (pairs_from (last_from a.first) a.n) (pairs_from loss a.n) (λ j. row-length (last_from a.first) a.n j ∙ sym (row-length loss a.n j))
          a.poses.from a.out.now c.loop-j.out a.at c.loop-j.p 0 (a.n - 2) c.loop-j.j c.loop-j.j
          (omega arith) (omega arith) i.1 i.0 c.requires.cached_pairs;
    }

pub loop-j-preserved : goal.loop-j-preserved
unfolding pairs_of
loop-j-preserved c =
    let a = c.args in
    let j = c.loop-j.j in
    let i = c.loop-j.invariant in
    let loss = loss_from (seen_by a.poses) a.first a.any_nan in
    let f = pairs_from loss a.n in (
      omega (arith, count-more f j, row-length loss a.n j),
      splice-turn-at f a.out.now c.loop-j.out _ a.at c.loop-j.p j i.1 i.0
          (omega (arith, c.requires.cached_pairs.room, runs-fits f 0 (a.n - 2) j (omega arith))) c.put_row-p.ensures.out_after,
    )

pub returns : goal.returns
unfolding pairs_of
returns c =
    let a = c.args in
    let i = c.loop-j.invariant in
    let loss = loss_from (seen_by a.poses) a.first a.any_nan in
    let f = pairs_from loss a.n in
    let e : c.loop-j.j ≡ a.n - 2 = omega arith in record {
      value = i.0 ∙ ap (λ (m : ℕ). a.at + length (runs f 0 m)) e ∙ ap (λ (m : ℕ). a.at + m) (pair-count loss a.n);
      out_after = i.1 ∙ ap (λ (m : ℕ). splice a.out.now a.at (runs f 0 m)) e;
    }
