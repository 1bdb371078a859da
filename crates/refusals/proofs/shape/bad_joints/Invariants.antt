-- `shape::bad_joints` meets its contract. The loop carries both answers for the chains passed, the next link and its joint.
use mathlib.Core.Path.{◌≡◌}
use Prim.Native.Nat.{◌≤◌}
use lib.ListN.{length}
use Rattle.sheet.specs.Chain.{chain_start, joint_of}
use Rattle.refusals.specs.Range.{every}
use Rattle.refusals.specs.Refusal.{two_joints, later_fits}
use Rattle.refusals.proofs.shape.bad_joints.Given as goal

abbrev pub invariant-loop-c : goal.invariant-loop-c
invariant-loop-c l = (l.c ≤ length l.counts) × (l.two ≡ every (two_joints l.counts l.codes) l.c) × (l.few ≡ every (later_fits l.counts l.codes) l.c) × (l.link ≡ chain_start l.counts l.c) × (l.joint ≡ joint_of l.codes (chain_start l.counts l.c))
