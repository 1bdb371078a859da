-- `put_answers` meets its contract: each list goes to its own output.
use mathlib.Core.Path.{◌≡◌, sym}
use native.Mathlib.Omega.{arith}
use lib.ListN.{length, take}
use lib.Seq.{length-take-le}
use Rattle.objective_bytes.proofs.objective_lists.put_answers.Goals as goal

pub slice_bounds-put_floats-end : goal.slice_bounds-put_floats-end
slice_bounds-put_floats-end c =
    let scratched : length (take c.args.n c.args.x.now) ≡ c.args.n = length-take-le c.args.n c.args.x.now c.requires.n_in_bounds.0 in
    sym (scratched)

pub put_floats-requires : goal.put_floats-requires
put_floats-requires c =
    let scratched : length (take c.args.n c.args.x.now) ≡ c.args.n = length-take-le c.args.n c.args.x.now c.requires.n_in_bounds.0 in
    omega (arith, scratched, c.requires)

pub slice_bounds-put_floats-end-3 : goal.slice_bounds-put_floats-end-3
slice_bounds-put_floats-end-3 c =
    let sloped : length (take c.args.n c.args.d.now) ≡ c.args.n = length-take-le c.args.n c.args.d.now c.requires.n_in_bounds.1 in
    sym (sloped)

pub put_floats-requires-3 : goal.put_floats-requires-3
put_floats-requires-3 c =
    let sloped : length (take c.args.n c.args.d.now) ≡ c.args.n = length-take-le c.args.n c.args.d.now c.requires.n_in_bounds.1 in
    omega (arith, sloped, c.requires)
