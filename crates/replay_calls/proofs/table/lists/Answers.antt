-- `lists` meets its contract: by what its calls ensure.
use native.Mathlib.Omega.{arith}
use Rattle.replay_calls.specs.Table.{lists_of}
use Rattle.replay_calls.proofs.table.lists.Goals as goal

pub returns : goal.returns
unfolding lists_of
returns c = (cc, omega arith)
