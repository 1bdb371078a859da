-- `record_end` meets its contract: by what its calls ensure.
use native.Mathlib.Omega.{arith}
use Rattle.stored_answers.specs.Records.{end_by}
use Rattle.stored_answers.proofs.program.record_end.Goals as goal

pub returns : goal.returns
unfolding end_by
returns g c = (cc, omega arith, rw (c.lists.ensures.0, c.call.ensures.0) at c.place.ensures.1)
