-- `entries_again` meets its contract.
use native.Mathlib.Omega.{arith}
use mathlib.Core.Path.{sym, ◌∙◌}
use Rattle.sheet.specs.Code.{joint-there, joint-missing}
use Rattle.sheet.specs.Chain.{end-past}
use Rattle.one_block.specs.Laws.{again-at-fixed, again-at-joint}
use Rattle.one_block.proofs.grad.entries_again.Goals as goal

pub returns-then-not-has_joint_at : goal.returns-then-not-has_joint_at
returns-then-not-has_joint_at c = sym (again-at-fixed _ _ _ (joint-missing _ (sym c.has_joint_at.ensures ∙ c.if-not-has_joint_at.true)))

pub overflow_sub-result : goal.overflow_sub-result
overflow_sub-result c = omega (arith, c.chain_end-past.ensures, end-past c.args.counts.now c.args.link c.requires.0)

pub returns : goal.returns
returns c = omega (arith, c.chain_end-past.ensures, again-at-joint c.args.counts.now c.args.codes.now c.args.link (joint-there _ (sym c.has_joint_at.ensures ∙ c.if-not-has_joint_at.false)))
