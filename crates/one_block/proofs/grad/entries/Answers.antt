use mathlib.Core.Path.{◌≡◌}
use Prim.Native.Nat.{◌+◌}
use native.Mathlib.Omega.{arith}
use lib.ListN.{length}
use Rattle.one_block.specs.Record.{entries_of}
use Rattle.one_block.specs.Laws.{below_none, below_more, below-most}
use Rattle.one_block.proofs.grad.entries.Goals as goal

pub loop-link-init : goal.loop-link-init
loop-link-init c = omega (arith, below_none c.args.counts.now c.args.codes.now)

pub overflow_add-n : goal.overflow_add-n
overflow_add-n c =
    let k = c.loop-link.link in
    let t = c.loop-link-test.true in
    let more = below_more c.args.counts.now c.args.codes.now k in
    omega (arith, t, c.requires, c.loop-link.invariant, c.entries_again-n.ensures, more, below-most c.args.counts.now c.args.codes.now (k + 1) (omega (arith, c.requires)) (omega (arith, c.requires, t)))

pub loop-link-preserved : goal.loop-link-preserved
loop-link-preserved c = omega (arith, c.loop-link.invariant, c.entries_again-n.ensures, below_more c.args.counts.now c.args.codes.now c.loop-link.link)

pub returns : goal.returns
unfolding entries_of
returns c =
    let e : c.loop-link.link ≡ length c.args.codes.now = omega (arith, c.loop-link-test.false) in
    rw e at c.loop-link.invariant
