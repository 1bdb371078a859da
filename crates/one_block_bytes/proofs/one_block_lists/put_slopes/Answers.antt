-- `put_slopes` meets its contract: value and slopes go each to its own output.
use mathlib.Core.Path.{◌≡◌, sym}
use native.Mathlib.Omega.{arith}
use lib.ListN.{length, take}
use lib.Seq.{length-take-le}
use Rattle.one_block_bytes.proofs.one_block_lists.put_slopes.Goals as goal

pub slice_bounds-put_floats-end-2 : goal.slice_bounds-put_floats-end-2
slice_bounds-put_floats-end-2 c =
    let sloped : length (take c.args.n c.args.d.now) ≡ c.args.n = length-take-le c.args.n c.args.d.now c.requires.0 in
    sym (sloped)

pub put_floats-requires-2 : goal.put_floats-requires-2
put_floats-requires-2 c =
    let sloped : length (take c.args.n c.args.d.now) ≡ c.args.n = length-take-le c.args.n c.args.d.now c.requires.0 in
    omega (arith, sloped, c.requires)
