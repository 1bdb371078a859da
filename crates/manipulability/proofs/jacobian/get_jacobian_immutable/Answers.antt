-- `get_jacobian_immutable` meets its contract: the axes are the front of the array, and the columns start as the identity.
use mathlib.Core.Path.{◌≡◌, ap, ◌∙◌}
use mathlib.Core.List.{List}
use Prim.Native.Nat.{ℕ, ◌-◌, ◌*◌, ◌/◌}
use native.Mathlib.Omega.{arith}
use lib.ListN.{take}
use Rattle.lists.specs.Listed.{listed}
use Rattle.sheet.specs.Chain.{joints_in}
use Rattle.manipulability.specs.Jacobian.{axes_of, unit_of, start_is}
use Rattle.manipulability.proofs.jacobian.get_jacobian_immutable.Goals as goal

-- the axes are the front of the array
front : (cs all : List ℕ) (f e n : ℕ) → n ≡ 6 * joints_in cs f e → take (joints_in cs f e) all ≡ axes_of cs f (e - f) → take (n / 6) all ≡ axes_of cs f (e - f)
front cs all f e n h axes =
    let k : n / 6 ≡ joints_in cs f e = omega arith in
    ap (λ (m : ℕ). take m all) k ∙ axes

pub columns-requires : goal.columns-requires
columns-requires c =
    let a = c.args in record {
      part = c.requires.part;
      view = c.requires.view;
      axes_value = (
        front _ _ _ _ _ c.requires.j_len c.joint_axes-all.ensures,
        c.identity.ensures ∙ ap (listed unit_of) c.requires.j_len ∙ start_is (joints_in a.codes.now a.first a.end),
      );
    }
