-- `chain::joints_to` meets its contract: turn after turn the reader has passed one link more, and j is the joint number of its link.
use Rattle.std.proofs.Common.{◌≡◌}
use Rattle.sheet.specs.Chain.{joint_of}
use Rattle.sheet.proofs.chain.joints_to.Given as goal

abbrev pub invariant-loop : goal.invariant-loop
invariant-loop l = record { at : l.r.link ≡ l.counter; of_codes : l.r.codes.now ≡ l.codes; joints : l.j ≡ joint_of l.codes l.counter }
