-- `fill_column` meets its contract: by what its two calls ensure.
use Rattle.manipulability.specs.Jacobian.{filled_of}
use Rattle.manipulability.proofs.jacobian.fill_column.Goals as goal

pub returns : goal.returns
unfolding filled_of
returns c = cc
