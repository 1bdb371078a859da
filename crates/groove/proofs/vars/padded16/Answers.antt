use Rattle.groove.specs.Vars.{padded}
use Rattle.groove.proofs.vars.padded16.Goals as goal

-- src/vars.rt:16:1
pub returns : goal.returns
unfolding padded
returns c = c.copy.ensures
