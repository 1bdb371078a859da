-- `get_manipulability_immutable` meets its contract: the Jacobian is the front of the array.
use mathlib.Core.Path.{◌≡◌, ap, ◌∙◌}
use mathlib.Core.List.{List}
use Prim.Native.Nat.{ℕ, ◌-◌, ◌*◌, ◌≤◌, ◌<◌}
use native.Mathlib.Omega.{arith}
use lib.ListN.{length, length-take, length-append}
use lib.Seq.{take_at}
use borrow.Author.Tests.{lt-ltb, le-ltb}
use Rattle.root.specs.Root.{root_of}
use Rattle.standins.specs.Cut.{cut_of}
use Rattle.geometry.specs.Matrix.{gram_of, determinant_of}
use Rattle.sheet.specs.Chain.{joint_of, joint-mono, joints_in}
use Rattle.manipulability.specs.Jacobian.{Part, joint-order, manipulability_in}
use Rattle.manipulability.proofs.jacobian.get_manipulability_immutable.Goals as goal

-- the joints as the code counts them, and room for their columns
counted : (cs : List ℕ) (f e m n : ℕ) → Part cs f e → m ≡ joint_of cs e → n ≡ joint_of cs f → (m - n ≡ joints_in cs f e) × (6 * (m - n) ≤ 96)
counted cs f e m n p a b = (omega arith, omega (arith, p.few))

pub overflow_sub-n : goal.overflow_sub-n
overflow_sub-n c = omega (arith, joint-mono c.args.codes.now c.args.first c.args.end c.requires.part.order)

pub returns-then-n-lt6 : goal.returns-then-n-lt6
unfolding manipulability_in
returns-then-n-lt6 c =
    let h : joints_in c.args.codes.now c.args.first c.args.end < 6 = omega (arith, counted _ _ _ _ _ c.requires.part c.joint_number.ensures c.joint_number-2.ensures, c.if-n-lt6.true) in rw (lt-ltb _ 6 h)

pub slice_bounds-get_jacobian_immutable-end : goal.slice_bounds-get_jacobian_immutable-end
slice_bounds-get_jacobian_immutable-end c =
    simp length-take (omega (arith, counted _ _ _ _ _ c.requires.part c.joint_number.ensures c.joint_number-2.ensures))

pub get_jacobian_immutable-requires : goal.get_jacobian_immutable-requires
get_jacobian_immutable-requires c =
    let all = counted _ _ _ _ _ c.requires.part c.joint_number.ensures c.joint_number-2.ensures in
    let many = all.0 in
    let fits = all.1 in record {
      part = (c.requires.part, joint-order c.args.codes.now c.args.first c.args.end (omega (arith, many, c.if-n-lt6.false)));
      view = c.requires.view;
      j_len = simp length-take (omega (arith, many, fits));
    }

pub slice_bounds-a-end-2 : goal.slice_bounds-a-end-2
slice_bounds-a-end-2 c =
    let fits = (counted _ _ _ _ _ c.requires.part c.joint_number.ensures c.joint_number-2.ensures).1 in
    simp (length-append, c.get_jacobian_immutable.auto.j, length-take) (omega (arith, fits))

pub slice_bounds-gram-end : goal.slice_bounds-gram-end
slice_bounds-gram-end c =
    let fits = (counted _ _ _ _ _ c.requires.part c.joint_number.ensures c.joint_number-2.ensures).1 in
    simp (length-take, length-append, c.get_jacobian_immutable.auto.j) (omega (arith, fits))

pub returns : goal.returns
unfolding manipulability_in
returns c =
    let all = counted _ _ _ _ _ c.requires.part c.joint_number.ensures c.joint_number-2.ensures in
    let many = all.0 in
    let fits = all.1 in
    let front : length c.get_jacobian_immutable.new.j ≡ 6 * (c.joint_number.result - c.joint_number-2.result) = c.get_jacobian_immutable.auto.j ∙ simp length-take (omega (arith, fits)) in
    let h : 6 ≤ joints_in c.args.codes.now c.args.first c.args.end = omega (arith, many, c.if-n-lt6.false) in
    rw (le-ltb _ 6 h)
    (c.sqrt.ensures.same ∙ ap root_of (c.cut.ensures ∙ ap cut_of (c.determinant-d.ensures ∙ ap determinant_of (c.gram.ensures
    ∙ ap gram_of (take_at c.get_jacobian_immutable.new.j _ _ front ∙ c.get_jacobian_immutable.ensures)))))
