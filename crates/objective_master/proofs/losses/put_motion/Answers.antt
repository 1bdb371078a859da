-- `put_motion` meets its contract: two runs that touch are one.
use mathlib.Core.Path.{◌≡◌, sym, ap, ◌∙◌}
use mathlib.Core.List.{List, [], ◌∷◌, ◌++◌}
use Prim.Native.Nat.{◌+◌}
use native.Mathlib.Omega.{arith}
use lib.Ieee.{Float}
use lib.ListN.{length, set}
use Rattle.lists.specs.Splice.{splice, splice-one, splice-splice, length-splice}
use Rattle.groove.specs.Loss.{maximize_manipulability}
use Rattle.task.specs.Task.{xopt_of, prev_state_of, prev_state2_of}
use Rattle.objective_master.specs.Losses.{change_losses, motion_losses, change-length}
use Rattle.objective_master.proofs.losses.put_motion.Goals as goal

pub returns : goal.returns
unfolding motion_losses
returns c =
    let a = c.args in
    let o = a.out.now in
    let C : List Float = change_losses a.x.now (xopt_of (length a.x.now) a.task.now) (prev_state_of (length a.x.now) a.task.now) (prev_state2_of (length a.x.now) a.task.now) in
    let n : length C ≡ 3 = change-length _ _ _ _ in
    let v = c.maximize_manipulability.result in
    let len : length (splice o a.at C) ≡ length o = length-splice o a.at C (omega (arith, c.requires.task_len)) in
    ap (λ (l : List Float). set l (a.at + 3) v) c.put_changes.ensures
    ∙ sym (splice-one (splice o a.at C) (a.at + 3) v (omega (arith, c.requires.task_len)))
    ∙ splice-splice o a.at (a.at + 3) C (v ∷ []) (omega arith) (omega (arith, c.requires.task_len))
    ∙ ap (λ (z : Float). splice o a.at (C ++ (z ∷ []))) (c.maximize_manipulability.ensures ∙ ap maximize_manipulability c.get_manipulability_immutable-m.ensures)
