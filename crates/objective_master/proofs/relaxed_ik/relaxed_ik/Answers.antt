-- `relaxed_ik` meets its contract: section after section, each behind those before it.
use mathlib.Core.Path.{◌≡◌, ◌∙◌}
use mathlib.Core.List.{List}
use Prim.Native.Nat.{ℕ, ◌+◌, ◌*◌, ◌≤◌}
use native.Mathlib.Omega.{arith}
use lib.ListN.{length}
use Rattle.sheet.specs.Chain.{joint_of, joints, joint-last}
use Rattle.task.specs.declared.picks.Picks.{Picks}
use Rattle.manipulability.specs.Jacobian.{Counted}
use Rattle.self_collision.specs.Pairs.{all_pairs, first_arm, chain_lengths}
use Rattle.objective_master.specs.Objective.{goal_width, objective_count}
use Rattle.objective_master.specs.Kinds.{kinds-count, kinds-made}
use Rattle.objective_master.proofs.relaxed_ik.relaxed_ik.Goals as goal

-- the sections fill the list
sections : (p : Picks) (ns cs : List ℕ) (n k j : ℕ) → Counted ns cs → n ≡ objective_count p ns cs → k ≡ length ns * goal_width p.strict → j ≡ joint_of cs (length cs)
    → (n ≡ k + j + 4 + length (all_pairs first_arm (chain_lengths ns cs))) × (j ≡ joints cs) × (j ≤ 16)
sections p ns cs n k j counted e₁ e₂ e₃ =
    let last : j ≡ joints cs = e₃ ∙ joint-last cs in
    (omega (arith, kinds-count p ns cs counted.whole), last, omega (arith, counted.few))

pub overflow_add-motion : goal.overflow_add-motion
overflow_add-motion c = omega (arith, sections _ _ _ _ _ _ c.requires.counted.0 c.objective_count-n.ensures c.goals_to-limits.ensures.0 c.joint_number-joints.ensures)

pub overflow_add-pairs : goal.overflow_add-pairs
overflow_add-pairs c = omega (arith, sections _ _ _ _ _ _ c.requires.counted.0 c.objective_count-n.ensures c.goals_to-limits.ensures.0 c.joint_number-joints.ensures)

pub put_goals-requires : goal.put_goals-requires
put_goals-requires c =
    (c.requires.counted.1, omega (arith, sections _ _ _ _ _ _ c.requires.counted.0 c.objective_count-n.ensures c.goals_to-limits.ensures.0 c.joint_number-joints.ensures))

pub put_kind-requires : goal.put_kind-requires
put_kind-requires c = omega (arith, sections _ _ _ _ _ _ c.requires.counted.0 c.objective_count-n.ensures c.goals_to-limits.ensures.0 c.joint_number-joints.ensures)

pub put_motion-requires : goal.put_motion-requires
put_motion-requires c = omega (arith, sections _ _ _ _ _ _ c.requires.counted.0 c.objective_count-n.ensures c.goals_to-limits.ensures.0 c.joint_number-joints.ensures)

pub overflow_sub-n : goal.overflow_sub-n
overflow_sub-n c = omega (arith, sections _ _ _ _ _ _ c.requires.counted.0 c.objective_count-n.ensures c.goals_to-limits.ensures.0 c.joint_number-joints.ensures)

pub put_kind-requires-2 : goal.put_kind-requires-2
put_kind-requires-2 c = omega (arith, sections _ _ _ _ _ _ c.requires.counted.0 c.objective_count-n.ensures c.goals_to-limits.ensures.0 c.joint_number-joints.ensures)

pub returns : goal.returns
returns c =
    let a = c.args in
    let joint = (sections _ _ _ _ _ _ c.requires.counted.0 c.objective_count-n.ensures c.goals_to-limits.ensures.0 c.joint_number-joints.ensures).1 in record {
      value = c.objective_count-n.ensures;
      kinds_after = kinds-made a.picks a.counts.now a.codes.now c.requires.counted.0.whole a.kinds.now _ _ _ _ c.objective_count-n.result c.goals_to-limits.result c.joint_number-joints.result
          c.objective_count-n.ensures (omega (arith, c.requires.codes_in_bounds)) joint c.goals_to-limits.ensures.0
          c.put_goals.ensures c.put_kind.ensures c.put_motion.ensures c.put_kind-2.ensures;
    }
