-- `joint_axes` meets its contract: turn after turn the axes of one link more.
use mathlib.Core.Path.{◌≡◌}
use mathlib.Core.List.{List}
use Prim.Native.Nat.{ℕ, ◌-◌, ◌≤◌}
use lib.ListN.{length}
use Rattle.lists.specs.Splice.{splice}
use Rattle.manipulability.specs.Jacobian.{axes_of}
use Rattle.manipulability.proofs.jacobian.joint_axes.Given as goal

abbrev pub invariant-loop-link : goal.invariant-loop-link
invariant-loop-link l =
    let axes : List ℕ = axes_of l.codes l.first (l.link - l.first) in (l.first ≤ l.link) × (l.joint ≡ length axes) × (length l.axes ≡ 16) × (l.axes ≡ splice l.initial.axes 0 axes)
