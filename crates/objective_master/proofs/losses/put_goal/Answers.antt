-- `put_goal` meets its contract: stored, or standing already.
use mathlib.Core.Path.{ap, ◌∙◌}
use Rattle.geometry.specs.declared.pose.Pose.{Pose}
use Rattle.lists.specs.Splice.{splice}
use Rattle.spacetime.specs.Tool.{tip_of}
use Rattle.objective_master.specs.Losses.{pose_losses}
use Rattle.objective_master.proofs.losses.put_goal.Goals as goal

pub returns-then-walked_again : goal.returns-then-walked_again
returns-then-walked_again c =
    let a = c.args in
    c.put_pose_losses.ensures
    ∙ ap (λ (p : Pose). splice a.out.now a.at (pose_losses a.picks.strict a.goals.now a.c p))
    (c.tip-end.ensures ∙ ap (tip_of a.tools.now a.c) c.pose-last.ensures)
