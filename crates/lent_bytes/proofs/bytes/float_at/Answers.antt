-- `float_at` meets its contract: the chunk is there where the list has not ended before it.
use mathlib.Core.Path.{ap, ◌∙◌}
use Prim.Native.Nat.{◌+◌, ◌*◌, ◌/◌, ◌<◌}
use native.Mathlib.Omega.{arith}
use borrow.Author.Tests.{lt-ltb}
use lib.ListN.{length}
use lib.Ieee.{binary64, of_bits}
use Rattle.standins.specs.Num.{nought-over-nought}
use Rattle.lent_bytes.specs.Bytes.{word_at, float_at}
use Rattle.lent_bytes.specs.Lent.{chunk-read, float-of}
use Rattle.lent_bytes.proofs.bytes.float_at.Goals as goal

pub returns-in-Some : goal.returns-in-Some
returns-in-Some c =
    let found = c.in-Some.ensures.lookup in
    let i : c.args.i < length c.args.b.now / 8 = omega (arith, found, c.as_chunks.ensures.front_len) in
    c.from_bytes.ensures ∙ ap (λ z. of_bits binary64 (word_at z 0)) (chunk-read 8 _ c.args.i c.args.b.now _ _ _ c.as_chunks.ensures.front i found.1) ∙ float-of c.args.b.now c.args.i i

pub returns-in-None : goal.returns-in-None
unfolding float_at
returns-in-None c =
    let l : length c.args.b.now < 8 * c.args.i + 8 = omega (arith, c.in-None.ensures.lookup, c.as_chunks.ensures.front_len) in
    rw (lt-ltb _ _ l) nought-over-nought
