-- `plan::of_sheet` meets its contract: each length is asked of the function that refusal 9 asks.
use Rattle.sizing.specs.Sizing.{plan-made}
use Rattle.sizing.proofs.plan.of_sheet.Goals as goal

pub returns : goal.returns
returns c =
    plan-made _ _ _ _ _ _ _
    c.positions_length-positions.ensures
    c.rotations_length-rotations.ensures
    c.objective_count-objectives.ensures
    c.entries-entries.ensures
