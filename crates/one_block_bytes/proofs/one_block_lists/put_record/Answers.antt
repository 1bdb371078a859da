-- `put_record` meets its contract: each list goes to its own output.
use mathlib.Core.Path.{◌≡◌, sym}
use Prim.Native.Nat.{◌*◌}
use native.Mathlib.Omega.{arith}
use lib.ListN.{length, take}
use lib.Seq.{length-take-le}
use Rattle.one_block_bytes.proofs.one_block_lists.put_record.Goals as goal

pub slice_bounds-put_numbers-end : goal.slice_bounds-put_numbers-end
slice_bounds-put_numbers-end c =
    let jointed : length (take c.args.n c.args.joints.now) ≡ c.args.n = length-take-le c.args.n c.args.joints.now c.requires.n_in_bounds.0 in
    sym (jointed)

pub put_numbers-requires : goal.put_numbers-requires
put_numbers-requires c =
    let jointed : length (take c.args.n c.args.joints.now) ≡ c.args.n = length-take-le c.args.n c.args.joints.now c.requires.n_in_bounds.0 in
    omega (arith, jointed, c.requires)

pub slice_bounds-put_numbers-end-2 : goal.slice_bounds-put_numbers-end-2
slice_bounds-put_numbers-end-2 c =
    let linked : length (take c.args.n c.args.links.now) ≡ c.args.n = length-take-le c.args.n c.args.links.now c.requires.n_in_bounds.1 in
    sym (linked)

pub put_numbers-requires-2 : goal.put_numbers-requires-2
put_numbers-requires-2 c =
    let linked : length (take c.args.n c.args.links.now) ≡ c.args.n = length-take-le c.args.n c.args.links.now c.requires.n_in_bounds.1 in
    omega (arith, linked, c.requires)

pub slice_bounds-put_floats-end : goal.slice_bounds-put_floats-end
slice_bounds-put_floats-end c =
    let posed : length (take (7 * c.args.n) c.args.poses.now) ≡ 7 * c.args.n = length-take-le (7 * c.args.n) c.args.poses.now c.requires.n_in_bounds.2 in
    sym (posed)

pub put_floats-requires : goal.put_floats-requires
put_floats-requires c =
    let posed : length (take (7 * c.args.n) c.args.poses.now) ≡ 7 * c.args.n = length-take-le (7 * c.args.n) c.args.poses.now c.requires.n_in_bounds.2 in
    omega (arith, posed, c.requires)

pub returns : goal.returns
returns c =
    record {
      record_joints_after = c.put_numbers.ensures;
      record_links_after = c.put_numbers-2.ensures;
      record_poses_after = c.put_floats.ensures;
    }
