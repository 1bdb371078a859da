-- `root::digits` meets its contract, whatever the guess: a guess that passes the test is right.
use Rattle.root.proofs.Special.{no_nan}
use Rattle.root.proofs.digits.Goals as goal

pub float_to_bits-q : goal.float_to_bits-q
float_to_bits-q c = no_nan _ c.if-s.false

pub returns-then-near : goal.returns-then-near
returns-then-near c = c.near.ensures c.if-near.true
