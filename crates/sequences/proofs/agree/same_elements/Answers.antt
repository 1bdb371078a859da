-- `same_elements` meets its contract: the bytes go to the front of a list that has room for them; a longer list cannot be the same.
use Rattle.std.proofs.Common.{◌≡◌, ap, sym, ◌∙◌, arith}
use mathlib.Core.List.{List}
use Prim.Native.Nat.{ℕ, ◌+◌, ◌*◌, ◌/◌, ◌≤◌, ◌<◌}
use Rattle.std.proofs.Math.Nat.{mul-le-mul_left, lt-div-mul-add}
use lib.ListN.{length}
use Rattle.lent_bytes.specs.Lent.{each-length, front}
use Rattle.stored_answers.specs.Agree.{same_bytes, same_false}
use Rattle.sequences.proofs.agree.same_elements.Goals as goal

too-long : (w n : ℕ) → 0 < w → 65536 / w < n → 65536 < w * n
too-long w n some h =
    let more : w * (65536 / w + 1) ≤ w * n = mul-le-mul_left w (omega arith) in
    omega (arith, more, lt-div-mul-add {a = 65536} some)

pub returns-then-xs : goal.returns-then-xs
returns-then-xs g c =
    let t = g.met.T.Element in
    let x = c.args.xs.now in
    let long = too-long g.row.N (length x) t.few.0 c.if-xs.true in
    let l : length (g.T.Element.laid x) ≡ g.row.N * length x = ap length (sym (t.lays x)) ∙ each-length g.T.Element.bytes g.row.N t.wide x in
    sym (same_false _ _ (λ e. omega (arith, ap length e, l, long, c.requires)))

pub returns : goal.returns
returns g c =
    let t = g.met.T.Element in
    let x = c.args.xs.now in
    let l : length (g.T.Element.laid x) ≡ g.row.N * length x = ap length (sym (t.lays x)) ∙ each-length g.T.Element.bytes g.row.N t.wide x in
    c.same.ensures ∙ ap (λ (b : List ℕ). same_bytes b c.args.b.now) (front _ c.put.new.out (g.T.Element.laid x) (g.row.N * length x) c.put.ensures l)
