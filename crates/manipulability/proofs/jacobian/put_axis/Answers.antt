-- `put_axis` meets its contract: a fixed link writes nothing.
use mathlib.Core.Path.{◌≡◌, sym, ap, ◌∙◌}
use native.Mathlib.Omega.{arith}
use lib.ListN.{get_or, set}
use Rattle.lists.specs.Splice.{splice, splice-nil, splice-one}
use Rattle.sheet.specs.Code.{has_joint, axis_in, joint-there, joint-missing}
use Rattle.sheet.specs.Chain.{joints-fixed, joints-one}
use Rattle.manipulability.specs.Jacobian.{piece-fixed, piece-one}
use Rattle.manipulability.proofs.jacobian.put_axis.Goals as goal

pub returns-then-not-has_joint : goal.returns-then-not-has_joint
returns-then-not-has_joint c =
    let a = c.args in
    let cs = a.codes.now in
    let fixed = joint-missing (get_or cs a.link 0) (ap has_joint (sym c.read-k.ensures) ∙ sym c.has_joint.ensures ∙ c.if-not-has_joint.true) in (
      omega (arith, joints-fixed (get_or cs a.link 0) fixed),
      sym (ap (splice a.axes.now a.joint) (piece-fixed cs a.link fixed) ∙ splice-nil a.axes.now a.joint),
    )

pub bounds-axes-joint : goal.bounds-axes-joint
bounds-axes-joint c =
    let there : get_or c.args.codes.now c.args.link 0 ≡ 0 → ⊥ = joint-there _ (ap has_joint (sym c.read-k.ensures) ∙ sym c.has_joint.ensures ∙ c.if-not-has_joint.false) in
    omega (arith, joints-one _ (there))

pub returns : goal.returns
returns c =
    let there : get_or c.args.codes.now c.args.link 0 ≡ 0 → ⊥ = joint-there _ (ap has_joint (sym c.read-k.ensures) ∙ sym c.has_joint.ensures ∙ c.if-not-has_joint.false) in
    let a = c.args in
    let cs = a.codes.now in
    let one = joints-one (get_or cs a.link 0) (there) in (
      omega (arith, one),
      ap (set a.axes.now a.joint) (c.axis.ensures ∙ ap axis_in c.read-k.ensures)
          ∙ sym (ap (splice a.axes.now a.joint) (piece-one cs a.link (there)) ∙ splice-one a.axes.now a.joint _ (omega (arith, c.requires, one))),
    )
