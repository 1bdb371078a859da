-- `floats` meets its contract: each return follows the tests of the length and of the count.
use mathlib.Core.Path.{◌≡◌, ◌∙◌, sym, ap}
use native.Mathlib.Omega.{arith}
use lib.ListN.{length}
use Rattle.lent_bytes.specs.Lent.{count_in, count_under, front-count}
use Rattle.lent_bytes.specs.Optional.{Floats, left_out, counted-wrong, counted-floats}
use Rattle.lent_bytes.proofs.optional.floats.Goals as goal

pub returns-then-b-eq0 : goal.returns-then-b-eq0
returns-then-b-eq0 c =
    let counted : c.decode-n.result ≡ count_in 8 (length c.args.out.now) (length c.args.b.now) = front-count _ _ c.decode-n.ensures in
    let e : length c.args.b.now ≡ 0 = omega arith in
    let n : c.decode-n.result ≡ 0 = omega (arith, counted, count_under 8 (length c.args.out.now) (length c.args.b.now)) in record {
      told = sym (left_out _ c.args.b.now e);
      held = rw n at c.decode-n.ensures;
    }

pub returns-then-n-eq0 : goal.returns-then-n-eq0
returns-then-n-eq0 c =
    let counted : c.decode-n.result ≡ count_in 8 (length c.args.out.now) (length c.args.b.now) = front-count _ _ c.decode-n.ensures in
    let n : c.decode-n.result ≡ 0 = omega arith in record {
      told = sym (counted-wrong _ _ (λ z. omega arith) (sym (counted) ∙ n));
      held = rw n at c.decode-n.ensures;
    }

pub returns : goal.returns
returns c =
    let counted : c.decode-n.result ≡ count_in 8 (length c.args.out.now) (length c.args.b.now) = front-count _ _ c.decode-n.ensures in
    let n = counted in record {
      told = ap Floats n ∙ sym (counted-floats _ _ (λ z. omega arith));
      held = c.decode-n.ensures;
    }
