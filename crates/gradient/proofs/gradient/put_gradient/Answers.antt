use mathlib.Core.Path.{◌≡◌, refl, ap, ◌∙◌}
use mathlib.Core.List.{List}
use Prim.Native.Nat.{ℕ}
use native.Mathlib.Omega.{arith}
use lib.Ieee.{Float}
use lib.ListN.{length}
use Rattle.lists.specs.Splice.{splice}
use Rattle.lists.specs.Listed.{listed, listed-none, listed-turn}
use Rattle.task.specs.Task.{Given, given_of}
use Rattle.gradient.specs.Gradient.{slope_at, slopes_of}
use Rattle.gradient.proofs.gradient.put_gradient.Goals as goal

pub loop-joint-init : goal.loop-joint-init
loop-joint-init c = (refl, listed-none (slope_at _ _ _ _) _)

pub loop-joint-preserved : goal.loop-joint-preserved
loop-joint-preserved c =
    let t = c.slope in
    let l = c.loop-joint in
    let a = c.args in
    let x = a.scratch.now in
    let G : Given = given_of a.counts.now a.codes.now a.task.now a.picks in (
      t.ensures.scratch_unchanged ∙ l.invariant.0,
      listed-turn (slope_at a.rule G a.floats.now x) a.slopes.now l.slopes l.joint _ (omega (arith, c.requires.ready.1, l.auto.slopes)) l.auto.slopes l.invariant.1
          (t.ensures.value ∙ ap (λ (y : List Float). slope_at a.rule G a.floats.now y l.joint) l.invariant.0),
    )

pub returns-clause-slopes_after : goal.returns-clause-slopes_after
unfolding slopes_of
returns-clause-slopes_after c =
    let l = c.loop-joint in
    let a = c.args in
    let x = a.scratch.now in
    let e : l.joint ≡ length x = omega arith in
    l.invariant.1 ∙ ap (λ (k : ℕ). splice a.slopes.now 0 (listed (slope_at a.rule (given_of a.counts.now a.codes.now a.task.now a.picks) a.floats.now x) k)) e
