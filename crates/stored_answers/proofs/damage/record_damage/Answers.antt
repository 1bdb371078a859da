-- `record_damage` meets its contract: each return follows the tests before it.
use borrow.Author.Tests.{lt-ltb, le-ltb}
use Rattle.stored_answers.specs.Records.{damage_at}
use Rattle.stored_answers.proofs.damage.record_damage.Goals as goal

pub returns-then-r : goal.returns-then-r
unfolding damage_at
returns-then-r g c = rw (lt-ltb _ _ c.if-r.true)

pub returns-then-LAST-call : goal.returns-then-LAST-call
unfolding damage_at
returns-then-LAST-call g c = rw (le-ltb _ _ c.if-r.false, ← c.call.ensures.0, ← c.LAST.ensures, lt-ltb _ _ c.if-LAST-call.true)

pub returns-then-r-record_end : goal.returns-then-r-record_end
unfolding damage_at
returns-then-r-record_end g c = rw (le-ltb _ _ c.if-r.false, ← c.call.ensures.0, ← c.LAST.ensures, le-ltb _ _ c.if-LAST-call.false, ← c.record_end.ensures.0, lt-ltb _ _ c.if-r-record_end.true)

pub returns : goal.returns
unfolding damage_at
returns g c = rw (le-ltb _ _ c.if-r.false, ← c.call.ensures.0, ← c.LAST.ensures, le-ltb _ _ c.if-LAST-call.false, ← c.record_end.ensures.0, le-ltb _ _ c.if-r-record_end.false)
