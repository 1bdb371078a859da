-- `put_pair` meets its contract: the loss stands already, or is stored.
use mathlib.Core.Path.{◌≡◌}
use Rattle.manipulability.specs.View.{seen_by}
use Rattle.self_collision.specs.Pairs.{loss_from, cached-kept, cached-stored}
use Rattle.self_collision.proofs.pairs.put_pair.Goals as goal

pub returns-then-first-k : goal.returns-then-first-k
returns-then-first-k c = cached-kept _ _ c.args.poses.from c.args.at c.args.out.now c.requires.cached_pairs c.if-first-k.true

pub returns : goal.returns
unfolding loss_from
returns c =
    let loss-is : let a = c.args in c.self_collision.result ≡ loss_from (seen_by a.poses) a.first a.any_nan a.j a.k = cc in
    cached-stored _ _ c.args.poses.from c.args.at c.args.out.now c.requires.cached_pairs _ (loss-is)
