-- `link_distance` meets its contract: the four points, then the distance.
use Rattle.self_collision.specs.Pairs.{link_distance}
use Rattle.self_collision.proofs.pairs.link_distance.Goals as goal

pub returns : goal.returns
unfolding link_distance
returns c = cc
