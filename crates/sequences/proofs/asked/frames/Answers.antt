-- `frames` meets its contract: the number, the positions, the rotations.
use mathlib.Core.Path.{ap, ◌∙◌}
use mathlib.Core.List.{List, [], ◌∷◌}
use lib.Ieee.{Float}
use lib.ListN.{length}
use Rattle.spacetime.specs.Frames.{positions_of, rotations_of}
use Rattle.lent_bytes.specs.Lent.{bytes_of}
use Rattle.lent_bytes.specs.SheetLists.{same-three}
use Rattle.state_calls.specs.State.{links_used}
use Rattle.state_calls.specs.Arms.{poses_of, frames_number_of}
use Rattle.stored_answers.specs.Agree.{agrees-begin, agrees_on}
use Rattle.sequences.specs.Table.{outputs}
use Rattle.sequences.specs.Lists.{left-same}
use Rattle.sequences.specs.Asked.{frames_agree}
use Rattle.sequences.proofs.asked.frames.Goals as goal

pub returns : goal.returns
unfolding frames_agree
returns c =
    let st = c.args.state in
    let x = c.requires.joints_value in
    let n = c.frames-answer.ensures.number ∙ same-three (frames_number_of st) x (ap length c.requires.positions_value.0) (ap length c.requires.positions_value.1) in
    let first = agrees_on _ _ _ outputs [] (agrees-begin _ _ outputs c.number-a.ensures (c.number_of.ensures ∙ n))
    (ap bytes_of (c.frames-answer.ensures.positions ∙ left-same n c.requires.positions_value.0 (ap (λ (y : List Float). positions_of (links_used st.arms.sizes) (poses_of st y)) x)))
    c.elements-b.ensures in
    agrees_on _ _ _ outputs (_ ∷ []) first
    (ap bytes_of (c.frames-answer.ensures.rotations ∙ left-same n c.requires.positions_value.1 (ap (λ (y : List Float). rotations_of (links_used st.arms.sizes) (poses_of st y)) x)))
    c.elements.ensures
