-- `put_pose_losses` meets its contract, of either list.
use mathlib.Core.Path.{sym, ap, ◌∙◌}
use mathlib.Core.Bool.{Bool}
use Rattle.lists.specs.Splice.{splice}
use Rattle.objective_master.specs.Losses.{pose_losses}
use Rattle.objective_master.proofs.losses.put_pose_losses.Goals as goal

pub returns-then-picks : goal.returns-then-picks
unfolding pose_losses
returns-then-picks c =
    let a = c.args in
    c.put_strict_losses.ensures ∙ ap (λ (s : Bool). splice a.out.now a.at (pose_losses s a.goals.now a.c a.end)) (sym c.if-picks.true)

pub returns : goal.returns
unfolding pose_losses
returns c =
    let a = c.args in
    c.put_tolerance_losses.ensures ∙ ap (λ (s : Bool). splice a.out.now a.at (pose_losses s a.goals.now a.c a.end)) (sym c.if-picks.false)
