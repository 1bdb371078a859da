use Rattle.lent_bytes.specs.Lent.{whole_in, room_in}
use Rattle.lent_bytes.proofs.lent.room.Goals as goal

pub returns : goal.returns
unfolding whole_in room_in
returns c = c.whole.ensures
