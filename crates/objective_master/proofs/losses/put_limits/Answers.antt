use mathlib.Core.Path.{◌≡◌, ap, ◌∙◌}
use mathlib.Core.List.{List}
use Prim.Native.Nat.{ℕ, ◌+◌, ◌*◌}
use native.Mathlib.Omega.{arith}
use lib.Ieee.{Float}
use lib.ListN.{length}
use Rattle.lists.specs.Splice.{splice}
use Rattle.lists.specs.Runs.{runs, length_runs, splice-none, splice-turn-at}
use Rattle.objective_master.specs.Losses.{limit_losses, limit-length}
use Rattle.objective_master.specs.Cached.{is_raised, piece-turn}
use Rattle.objective_master.proofs.losses.put_limits.Goals as goal

pub loop-j-init : goal.loop-j-init
loop-j-init c = splice-none (limit_losses _ _) _ _ 0

pub put_limit-requires : goal.put_limit-requires
put_limit-requires c =
    let a = c.args in
    let L = a.limits.now in
    let X = a.x.now in record {
      j_in_bounds = (omega arith, omega (arith, c.requires.x_in_bounds), omega (arith, c.requires.cached_pieces.room));
      cached_piece = piece-turn (limit_losses L X) 1 (limit-length L X) (is_raised a.raised) a.at (length X) a.out.now c.loop-j.out c.loop-j.j (a.at + c.loop-j.j) c.requires.cached_pieces c.loop-j.invariant
          (omega arith) (omega arith) (omega arith);
    }

pub loop-j-preserved : goal.loop-j-preserved
loop-j-preserved c =
    let a = c.args in
    let f : ℕ → List Float = limit_losses a.limits.now a.x.now in
    let j = c.loop-j.j in
    let n : length (runs f 0 j) ≡ j * 1 = length_runs f 1 (limit-length _ _) 0 j in
    splice-turn-at f a.out.now c.loop-j.out _ a.at (a.at + j) j c.loop-j.invariant (omega arith) (omega (arith, c.requires.cached_pieces.room)) c.put_limit.ensures

pub returns : goal.returns
returns c =
    let a = c.args in
    let f : ℕ → List Float = limit_losses a.limits.now a.x.now in
    let e : c.loop-j.j ≡ length a.x.now = omega arith in
    c.loop-j.invariant ∙ ap (λ (k : ℕ). splice a.out.now a.at (runs f 0 k)) e
