-- `point` meets its contract: the origin, or the position after a link.
use mathlib.Core.Path.{sym, ◌∙◌}
use Rattle.self_collision.specs.Pairs.{point-zero, point-link}
use Rattle.self_collision.proofs.pairs.point.Goals as goal

pub returns-then-i-eq0 : goal.returns-then-i-eq0
returns-then-i-eq0 c = c.zero.ensures ∙ sym (point-zero _ _ _ c.if-i-eq0.true)

pub returns : goal.returns
returns c = c.position.ensures ∙ sym (point-link _ _ _ c.if-i-eq0.false)
