use mathlib.Core.Path.{◌≡◌, sym, ap, ◌∙◌}
use mathlib.Core.List.{List, ◌++◌}
use Prim.Native.Nat.{ℕ, ◌+◌, ◌*◌, ◌≤◌, ◌<◌}
use native.Mathlib.Omega.{arith}
use Rattle.std.proofs.Math.Nat.{mul-le-mul_left}
use lib.ListN.{length, take, drop}
use lib.Seq.{drop-drop}
use borrow.Rule.Slice.PartMut.{put_mid}
use Rattle.lists.specs.Splice.{splice}
use Rattle.lent_bytes.specs.Lent.{each_none, each_turn, each-all}
use Rattle.lent_bytes.proofs.lent.put.Goals as goal

placed : (xs ys : List ℕ) (a k : ℕ) → length ys ≡ k → put_mid a k xs ys ≡ splice xs a ys
unfolding splice
placed xs ys a k e = ap (λ (l : List ℕ). take a xs ++ (ys ++ l)) (drop-drop k a xs ∙ ap (λ (n : ℕ). drop (a + n) xs) (sym e))

pub loop-i-init : goal.loop-i-init
loop-i-init g c = each_none g.T.Element.bytes g.row.N g.met.T.Element.wide c.args.src.now c.args.out.now c.args.at

pub loop-i-preserved : goal.loop-i-preserved
loop-i-preserved g c =
    let l = c.loop-i in
    let a = c.args in
    let inside : l.i < length a.src.now = omega (arith, c.loop-i-test.true) in
    let most : l.i ≤ length a.src.now = omega arith in
    let room : a.at + g.row.N * l.i ≤ length a.out.now = omega (arith, c.requires, mul-le-mul_left g.row.N most) in
    let wide : length c.copy_from_slice.new.self ≡ g.row.N = ap length (c.copy_from_slice.ensures.after ∙ c.to_bytes.ensures) ∙ g.met.T.Element.wide _ in
    each_turn g.T.Element.bytes g.row.N g.met.T.Element.wide a.src.now c.index-src-i.result a.out.now l.out _ a.at l.i inside room l.invariant
    (placed _ _ _ _ (wide ∙ omega arith) ∙ ap (splice l.out (a.at + g.row.N * l.i)) (c.copy_from_slice.ensures.after ∙ c.to_bytes.ensures ∙ ap g.T.Element.bytes c.index-src-i.is))

pub returns : goal.returns
returns g c =
    let a = c.args in
    each-all g.T.Element.bytes g.row.N g.met.T.Element.wide a.src.now a.out.now c.loop-i.out _ a.at c.loop-i.i (omega arith) c.loop-i.invariant (g.met.T.Element.lays a.src.now)
