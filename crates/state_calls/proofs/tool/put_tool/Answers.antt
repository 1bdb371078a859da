-- `put_tool` meets its contract: the 1 and the list behind it are one run.
use mathlib.Core.Path.{◌≡◌, refl, sym, ap, ◌∙◌}
use mathlib.Core.List.{List, [], ◌∷◌}
use Prim.Native.Nat.{◌+◌}
use native.Mathlib.Omega.{arith}
use lib.Ieee.{Float}
use lib.ListN.{length, set, length-set}
use Rattle.lists.specs.Splice.{splice, splice-one, splice-splice}
use Rattle.standins.specs.Num.{one}
use Rattle.state_calls.proofs.tool.put_tool.Goals as goal

pub put-requires : goal.put-requires
put-requires c =
    let stored : length (set c.args.tools.now c.args.at one) ≡ length c.args.tools.now = length-set c.args.tools.now c.args.at one in
    omega (arith, stored, c.requires)

pub returns : goal.returns
returns c =
    let a = c.args in
    let t = a.tools.now in
    c.put.ensures
    ∙ ap (λ (l : List Float). splice l (a.at + 1) a.tool.now) (sym (splice-one t a.at one (omega arith)))
    ∙ splice-splice t a.at (a.at + 1) (one ∷ []) a.tool.now refl (omega arith)
