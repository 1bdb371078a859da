-- `in_use` meets its contract: each return follows the tests before it.
use mathlib.Core.Path.{◌≡◌, refl, ap, ◌∙◌}
use Prim.Native.Nat.{ℕ, ◌+◌, ◌-◌, ◌*◌}
use native.Mathlib.Omega.{arith}
use lib.ListN.{take, drop, get_or, length-drop}
use lib.Seq.{length-take-le}
use Rattle.refusals.specs.Number.{paper_number-some}
use Rattle.state_calls.specs.State.{links_used, codes_used, floats_used}
use Rattle.state_calls.proofs.InUse.{many-chains, many-links, links, shape-refused, shape-taken}
use Rattle.state_calls.proofs.state.in_use.Goals as goal

pub returns-then-chains-gt4-clause-number : goal.returns-then-chains-gt4-clause-number
returns-then-chains-gt4-clause-number c = rw (many-chains _ c.args.arms.now.codes c.if-chains-gt4.true)

pub returns-then-links-gt64-clause-number : goal.returns-then-links-gt64-clause-number
returns-then-links-gt64-clause-number c = rw (many-links _ c.args.arms.now.codes _ c.if-chains-gt4.false c.total_links-links.ensures c.if-links-gt64.true)

pub returns-in_default-clause-number : goal.returns-in_default-clause-number
returns-in_default-clause-number c =
    rw (shape-refused _ _ _ c.if-chains-gt4.false c.total_links-links.ensures _ c.if-links-gt64.false c.in_default.ensures (λ z. omega (arith, paper_number-some c.in_default.field-0, z)))

pub returns : goal.returns
unfolding links_used codes_used floats_used
returns c =
    let ss = c.args.arms.now.sizes in
    let cs = c.args.arms.now.codes in
    let n = c.total_links-links.result in
    let sum = c.total_links-links.ensures in
    let few = c.if-chains-gt4.false in
    let l = links ss cs n few sum in
    let e : get_or ss 0 0 + 1 - 1 ≡ get_or ss 0 0 = omega arith in
    let there = shape-taken ss cs n few sum 0 c.if-links-gt64.false c.in-Ok.ensures refl in record {
      number = rw there;
      sheet = record {
        have = there;
        chains = length-take-le _ (drop 1 ss) (omega (arith, length-drop {A = ℕ}, c.type_inv.arms)) ∙ e;
        counts = ap (λ (k : ℕ). take k (drop 1 ss)) e;
        codes = ap (λ (k : ℕ). take k cs) l;
        floats = ap (λ (k : ℕ). take (7 * k) c.args.arms.now.floats) l;
      };
    }
