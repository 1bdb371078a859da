-- `put_limit` meets its contract: stored, or standing already.
use mathlib.Core.Path.{sym, ap, ◌∙◌}
use native.Mathlib.Omega.{arith}
use lib.ListN.{set}
use Rattle.lists.specs.Splice.{splice-one}
use Rattle.objective_master.specs.Losses.{limit_losses, limit_loss}
use Rattle.objective_master.proofs.losses.put_limit.Goals as goal

pub returns-then-is_raised : goal.returns-then-is_raised
unfolding limit_losses limit_loss
returns-then-is_raised c =
    let a = c.args in
    ap (set a.out.now a.at) c.each_joint_limits.ensures ∙ sym (splice-one a.out.now a.at _ (omega (arith, c.requires.j_in_bounds)))
