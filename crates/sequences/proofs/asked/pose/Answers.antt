-- `pose` meets its contract: the number, then the end poses.
use mathlib.Core.Path.{ap, ◌∙◌}
use mathlib.Core.List.{List, []}
use lib.Ieee.{Float}
use lib.ListN.{length}
use Rattle.spacetime.specs.Frames.{ends_of}
use Rattle.lent_bytes.specs.Lent.{bytes_of}
use Rattle.lent_bytes.specs.SheetLists.{same-two}
use Rattle.state_calls.specs.State.{links_used}
use Rattle.state_calls.specs.Arms.{poses_of, pose_number_of}
use Rattle.stored_answers.specs.Agree.{agrees-begin, agrees_on}
use Rattle.sequences.specs.Table.{outputs}
use Rattle.sequences.specs.Lists.{left-same}
use Rattle.sequences.specs.Asked.{pose_agrees}
use Rattle.sequences.proofs.asked.pose.Goals as goal

pub returns : goal.returns
unfolding pose_agrees
returns c =
    let st = c.args.state in
    let x = c.requires.joints_value in
    let n = c.pose-answer.ensures.number ∙ same-two (pose_number_of st) x (ap length c.requires.ends_value) in
    agrees_on _ _ _ outputs [] (agrees-begin _ _ outputs c.number-a.ensures (c.number_of.ensures ∙ n))
    (ap bytes_of (c.pose-answer.ensures.ends ∙ left-same n c.requires.ends_value (ap (λ (y : List Float). ends_of (links_used st.arms.sizes) st.arms.tools (poses_of st y)) x)))
    c.elements.ensures
