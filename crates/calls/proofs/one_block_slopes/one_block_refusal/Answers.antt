-- `one_block_refusal` meets its contract: no sheet has more entries than a record may.
use native.Mathlib.Omega.{arith}
use Rattle.calls.specs.OneBlock.{entries-most}
use Rattle.calls.proofs.one_block_slopes.one_block_refusal.Goals as goal

pub record_refusal-requires : goal.record_refusal-requires
record_refusal-requires c = omega (arith, c.entries-entries.ensures, entries-most c.args.counts.now c.args.codes.now c.requires.whole c.requires.links)
