-- `put_kind` meets its contract: a filled part.
use mathlib.Core.Path.{◌≡◌, refl, sym, ap, ◌∙◌}
use mathlib.Core.List.{List, [], ◌∷◌, ◌++◌}
use Prim.Native.Nat.{ℕ, zero, suc, ◌+◌, ◌-◌}
use native.Mathlib.Omega.{arith}
use lib.ListN.{length, take, drop, replicate}
use Rattle.std.proofs.Common.{add-one, length-drop, length-take-le, drop-drop}
use Rattle.std.proofs.lemmas.List.{replicate_more}
use Rattle.lists.specs.Splice.{splice}
use Rattle.lists.specs.Runs.{runs, length_runs}
use Rattle.objective_master.specs.Kinds.{only_kind, one-kind}
use Rattle.objective_master.proofs.relaxed_ik.put_kind.Goals as goal

one-after-one : (k n : ℕ) → runs (only_kind k) 0 n ≡ replicate n k
unfolding runs only_kind
one-after-one k zero = refl
one-after-one k (suc n) = ap (λ (l : List ℕ). l ++ (k ∷ [])) (one-after-one k n) ∙ rw add-one at (replicate_more n k)

pub returns : goal.returns
unfolding splice
returns c =
    let a = c.args in
    let t = a.kinds.now in
    let k = a.at + a.n - a.at in
    let ys = runs (only_kind a.kind) 0 a.n in
    let part : length (take k (drop a.at t)) ≡ a.n = length-take-le k (drop a.at t) (omega (arith, length-drop a.at t)) ∙ omega arith in
    let same : c.fill.new.self ≡ ys = c.fill.ensures.after (λ y e. e) ∙ ap (λ (m : ℕ). replicate m a.kind) part ∙ sym (one-after-one a.kind a.n) in
    let long : k ≡ length ys = omega (arith, length_runs (only_kind a.kind) 1 (one-kind a.kind) 0 a.n) in
    ap (λ (l : List ℕ). take a.at t ++ (l ++ drop k (drop a.at t))) same
    ∙ ap (λ (m : ℕ). take a.at t ++ (ys ++ drop m (drop a.at t))) long
    ∙ ap (λ (r : List ℕ). take a.at t ++ (ys ++ r)) (drop-drop (length ys) a.at t)
