use Rattle.lent_bytes.specs.Lent.{whole_in, number_room_in}
use Rattle.lent_bytes.proofs.lent.number_room.Goals as goal

pub returns : goal.returns
unfolding whole_in number_room_in
returns c = c.whole.ensures
