use mathlib.Core.Path.{◌≡◌, sym, ap, ◌∙◌}
use native.Mathlib.Omega.{arith}
use lib.ListN.{length}
use lib.Seq.{take_all}
use Rattle.lists.specs.Listed.{listed}
use Rattle.lent_bytes.specs.Bytes.{float_at}
use Rattle.lent_bytes.specs.Lent.{elements-none, elements-turn}
use Rattle.lent_bytes.proofs.bytes.floats.Goals as goal

pub loop-i-init : goal.loop-i-init
loop-i-init c = elements-none (float_at c.args.b.now)

pub loop-i-preserved : goal.loop-i-preserved
loop-i-preserved c = elements-turn (float_at c.args.b.now) c.loop-i.out c.loop-i.i _ (omega arith) c.loop-i.invariant c.float_at.ensures

pub returns : goal.returns
returns c =
    let l = c.loop-i in
    let n : l.i ≡ length c.args.out.now = omega arith in
    sym (take_all l.i l.out (omega arith)) ∙ l.invariant ∙ ap (listed (float_at c.args.b.now)) n
