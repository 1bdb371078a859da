-- `manipulability` meets its contract: the output is the value's bytes.
use mathlib.Core.Path.{refl, sym, ap, ◌∙◌}
use mathlib.Core.List.{List, [], ◌∷◌}
use Prim.Native.Nat.{ℕ}
use native.Mathlib.Omega.{arith}
use lib.Ieee.{Float}
use lib.ListN.{length}
use Rattle.lists.specs.Splice.{splice}
use Rattle.spacetime.specs.Walk.{pose_of}
use Rattle.manipulability.specs.Jacobian.{manipulability_of}
use Rattle.refusals.specs.Lowest.{first-none}
use Rattle.calls.specs.Arms.{taken}
use Rattle.calls.specs.Answer.{value_taken}
use Rattle.lent_bytes.specs.Lent.{bytes_of}
use Rattle.arm_bytes.specs.ArmCalls.{manipulability_value}
use Rattle.arm_bytes.specs.ArmLaws.{bytes_fit}
use Rattle.arm_bytes.proofs.arm_lists.manipulability.Goals as goal

pub put_floats-requires : goal.put_floats-requires
put_floats-requires c =
    omega (arith, bytes_fit _ (length c.args.value.now) _ refl (first-none _ _ (sym c.in_ok-value_refusal.ensures)).1)

pub returns-clause-value : goal.returns-clause-value
unfolding manipulability_value
returns-clause-value c =
    let a = c.args in
    let v = c.in_ok-v.ensures.value ∙ value_taken _ _ refl
    ∙ ap (λ (ns : List ℕ). manipulability_of (pose_of ns a.codes.now a.floats.now a.joints.now) ns a.codes.now) c.links-counts.ensures in
    c.put_floats.ensures ∙ ap (λ (x : Float). splice a.value.now 0 (bytes_of (x ∷ []))) v ∙ sym (taken 0 _ _ refl)
