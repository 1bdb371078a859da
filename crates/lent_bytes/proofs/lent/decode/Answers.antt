use mathlib.Core.Path.{sym, ap, ◌∙◌, subst}
use mathlib.Core.List.{◌++◌}
use Prim.Native.Nat.{◌/◌, ◌<◌}
use native.Mathlib.Omega.{arith}
use lib.ListN.{length, drop}
use lib.Seq.{length-take-le}
use Rattle.lent_bytes.specs.Lent.{Front, elements-none, elements-turn, elements-front, chunk-read}
use Rattle.lent_bytes.proofs.lent.decode.Goals as goal

pub slice_bounds-x-items-end-2 : goal.slice_bounds-x-items-end-2
slice_bounds-x-items-end-2 g c = sym (length-take-le c.count-n.result c.args.out.now c.count-n.ensures.fits.0)

pub loop-i-init : goal.loop-i-init
loop-i-init g c = elements-none _

pub loop-i-preserved : goal.loop-i-preserved
loop-i-preserved g c =
    let l = c.loop-i in
    let n = length-take-le c.count-n.result c.args.out.now c.count-n.ensures.fits.0 in
    let chunk : l.i < length c.args.b.now / g.row.N = omega (arith, n, c.loop-i-test.true, c.count-n.ensures.fits) in
    let le = chunk-read g.row.N _ l.i c.args.b.now _ _ _ c.as_chunks.ensures.front chunk c.index-elements-i.is in
    elements-turn _ l.x-items l.i _ (omega (arith, c.loop-i-test.true, l.auto.x-items)) l.invariant (c.from_bytes.ensures ∙ ap g.T.Element.read le)

pub returns : goal.returns
returns g c =
    let l = c.loop-i in
    let n = length-take-le c.count-n.result c.args.out.now c.count-n.ensures.fits.0 in
    subst (λ zs. Front zs (l.x-items ++ drop c.count-n.result c.args.out.now) c.count-n.result) (g.met.T.Element.takes _ _)
    (elements-front g.T.Element.read g.row.N _ c.args.b.now l.x-items _ l.i _ (l.auto.x-items ∙ n) (omega (arith, n, c.loop-i-test.false, l.auto.i-end)) c.count-n.ensures.count l.invariant)
