use Rattle.std.proofs.Common.{◌∙◌, sym, ap, arith}
use Rattle.sheet.specs.Chain.{joint-zero, joint-more, joint-le}
use Rattle.sheet.proofs.chain.joints_to.Goals as goal

pub loop-init : goal.loop-init
loop-init c = record { at = c.new-r.ensures.1; of_codes = ap (λ r. r.now) c.new-r.ensures.0; joints = sym (joint-zero _) }

pub counted-j-requires : goal.counted-j-requires
counted-j-requires c = omega (arith, joint-le c.args.codes.now c.loop.counter)

pub loop-preserved : goal.loop-preserved
loop-preserved c =
    let more = joint-more c.args.codes.now c.loop.counter in
    record {
      at = omega (arith, c.moved-r.ensures.1);
      of_codes = ap (λ r. r.now) c.moved-r.ensures.0 ∙ c.loop.invariant.of_codes;
      joints = cc;
    }
