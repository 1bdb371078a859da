-- `lengths::block_length` meets its contract: the number after the last link is that of all joints.
use mathlib.Core.Path.{◌∙◌}
use Rattle.sheet.specs.Chain.{joint-last}
use Rattle.refusals.proofs.lengths.block_length.Goals as goal

pub returns : goal.returns
returns c = c.joint_number.ensures ∙ joint-last _
