use mathlib.Core.Path.{◌≡◌, ap, ◌∙◌}
use Prim.Native.Nat.{ℕ}
use native.Mathlib.Omega.{arith}
use lib.Ieee.{nan}
use lib.ListN.{length, get_or}
use Rattle.std.proofs.lemmas.List.{length_push}
use Rattle.std.proofs.lemmas.Slice.Zip.{zip_turn, zip_end}
use Rattle.objective_master.specs.Weights.{sum-none, sum_more, sum-all}
use Rattle.objective_master.proofs.weights.weighted_sum.Goals as goal

pub loop-kind-init : goal.loop-kind-init
loop-kind-init c = sum-none _ _ _

pub loop-kind-preserved : goal.loop-kind-preserved
loop-kind-preserved c =
    let a = c.args in
    let i = length c.loop-kind.yielded in
    let first : c.into_iter-kind-iterator.result.a.rest.now ≡ a.kinds.now = cc in
    let second : c.into_iter-kind-iterator.result.b.rest.now ≡ a.values.now = cc c.zip-kind-items.ensures.second.0 in
    let at = zip_turn a.kinds.now a.values.now c.loop-kind.yielded c.into_iter-kind-iterator.result c.loop-kind.kind-iterator c.next.new.self c.next.result first second c.loop-kind.yielded_by _ c.in-Some.is c.next.ensures.steps in
    rw (length_push c.loop-kind.yielded _, at.3 nan)
    (sum_more a.weights.now a.kinds.now a.values.now i c.loop-kind.s _ c.loop-kind.invariant (c.weight.ensures ∙ ap (λ (k : ℕ). get_or a.weights.now k nan) (at.2 0)))

pub returns : goal.returns
returns c =
    let a = c.args in
    let first : c.into_iter-kind-iterator.result.a.rest.now ≡ a.kinds.now = cc in
    let second : c.into_iter-kind-iterator.result.b.rest.now ≡ a.values.now = cc c.zip-kind-items.ensures.second.0 in
    let all = zip_end a.kinds.now a.values.now c.loop-kind.yielded c.into_iter-kind-iterator.result c.loop-kind.kind-iterator c.next.new.self c.next.result first second c.loop-kind.yielded_by c.in-None.is c.next.ensures.steps in
    sum-all a.weights.now a.kinds.now a.values.now (length c.loop-kind.yielded) c.loop-kind.s c.loop-kind.invariant (omega (arith, all))
