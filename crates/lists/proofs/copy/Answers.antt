use Rattle.std.proofs.Common.{◌≡◌, ◌+◌, [], ◌∷◌, ◌++◌, take, sym, ap, ◌∙◌, arith, take-suc, take_all, length-take-le, add-one}
use Rattle.lists.specs.Splice.{splice, splice-nil, splice-one, splice-splice}
use Rattle.lists.proofs.copy.Goals as goal

pub loop-i-init : goal.loop-i-init
loop-i-init g c = sym (splice-nil c.args.dst.now 0)

pub loop-i-preserved : goal.loop-i-preserved
loop-i-preserved g c =
    let l = c.loop-i in
    let src = c.args.src.now in
    let dst = c.args.dst.now in
    let v = c.index-src-i.result in
    let h = c.loop-i-test.true in
    let long = length-take-le l.i src (omega (arith, h)) in
    let more : take (l.i + 1) src ≡ take l.i src ++ (v ∷ []) =
    rw add-one (take-suc src l.i v h ∙ ap (λ x. take l.i src ++ (x ∷ [])) (sym c.index-src-i.is)) in
    sym (splice-one l.dst l.i v (omega (arith, c.requires, h, l.auto.dst)))
    ∙ ap (λ xs. splice xs l.i (v ∷ [])) l.invariant
    ∙ splice-splice dst 0 l.i (take l.i src) (v ∷ []) (omega (arith, long)) (omega (arith, long, c.requires, h))
    ∙ ap (splice dst 0) (sym more)

pub returns : goal.returns
returns g c =
    let src = c.args.src.now in
    c.loop-i.invariant ∙ ap (splice c.args.dst.now 0) (take_all c.loop-i.i src c.loop-i-test.false)
