-- `slope` meets its contract: the losses of the raised block, and the old value put back.
use mathlib.Core.Path.{◌≡◌, ap, ◌∙◌}
use mathlib.Core.List.{List}
use native.Mathlib.Omega.{arith}
use lib.Ieee.{Float}
use lib.ListN.{length}
use Rattle.lists.specs.Splice.{splice}
use Rattle.task.specs.Task.{Given, given_of}
use Rattle.gradient.specs.Slopes.{step_of, slope_by}
use Rattle.gradient.specs.Gradient.{losses_at, raised_by}
use Rattle.gradient.specs.Made.{put_back, losses-front, as_many, slope-made}
use Rattle.gradient.proofs.gradient.slope.Goals as goal

pub returns : goal.returns
unfolding raised_by given_of
returns c =
    let a = c.args in
    let ns = a.counts.now in
    let cs = a.codes.now in
    let T = a.task.now in
    let gs = a.floats.now in
    let x = a.scratch.now in
    let G : Given = given_of ns cs T a.picks in
    let j = a.asked.joint in
    let R = a.asked.rule in
    let h = c.step in
    let f = c.losses_of in
    let hs = f.new.out in
    let ks = a.kinds.now in
    let n = as_many G gs x ks c.requires.known.kinds in
    let at : hs ≡ splice a.f_hs.now 0 (losses_at G gs (raised_by (step_of R) x j)) = f.ensures ∙ ap (λ (v : Float). splice a.f_hs.now 0 (losses_at G gs (raised_by v x j))) h.ensures in record {
      value = c.slope.ensures ∙ ap (λ (ws : List Float). slope_by R ws ks a.asked.f_0 a.f_0s.now hs) c.weights.ensures.0
          ∙ slope-made G gs x ks c.requires.known.kinds R j a.asked.f_0 a.f_0s.now hs c.requires.known.value c.requires.known.losses (omega (arith, c.requires.known.again, f.auto.out)) (losses-front G gs (raised_by (step_of R) x j) a.f_hs.now hs (length ks) n at);
      scratch_unchanged = put_back h.result x j;
    }
