-- `gradient_on` meets its contract: the kinds, value and losses first, then the slopes.
use mathlib.Core.Path.{ap, ◌∙◌}
use native.Mathlib.Omega.{arith}
use lib.ListN.{length}
use Rattle.task.specs.Task.{given_of}
use Rattle.objective_master.specs.Kinds.{kinds-length}
use Rattle.gradient.specs.Ready.{kinds-most, kinds-listed}
use Rattle.gradient.specs.Made.{losses-front}
use Rattle.gradient.proofs.gradient.gradient_on.Goals as goal

pub relaxed_ik-n-requires-clause-codes_in_bounds : goal.relaxed_ik-n-requires-clause-codes_in_bounds
relaxed_ik-n-requires-clause-codes_in_bounds c =
    let a = c.args in
    omega (arith, kinds-most a.counts.now a.codes.now a.task.now a.picks a.floats.now a.scratch.now c.requires.0, kinds-length a.picks a.counts.now a.codes.now)

pub slice_bounds-list-end : goal.slice_bounds-list-end
slice_bounds-list-end c =
    let k = c.relaxed_ik-n in
    (kinds-listed _ _ _ _ _ _ c.requires.0 _ _ _ k.auto.kinds k.ensures.value k.ensures.kinds_after).within

pub slice_bounds-kinds-end : goal.slice_bounds-kinds-end
slice_bounds-kinds-end c =
    let k = c.relaxed_ik-n in
    (kinds-listed _ _ _ _ _ _ c.requires.0 _ _ _ k.auto.kinds k.ensures.value k.ensures.kinds_after).many

pub value_of-f_0-requires : goal.value_of-f_0-requires
value_of-f_0-requires c =
    let k = c.relaxed_ik-n in
    let listed = kinds-listed _ _ _ _ _ _ c.requires.0 _ _ _ k.auto.kinds k.ensures.value k.ensures.kinds_after in record {
      ready = (c.requires.0, listed.front);
      codes_in_bounds = (omega (arith, c.requires.0.sheet.links), omega (arith, listed.few));
    }

pub put_gradient-requires-clause-known : goal.put_gradient-requires-clause-known
unfolding given_of
put_gradient-requires-clause-known c =
    let k = c.relaxed_ik-n in
    let listed = kinds-listed _ _ _ _ _ _ c.requires.0 _ _ _ k.auto.kinds k.ensures.value k.ensures.kinds_after in
    let v = c.value_of-f_0 in
    let a = c.args in
    let ns = a.counts.now in
    let cs = a.codes.now in
    let m = ap length listed.front ∙ kinds-length a.picks ns cs in record {
      kinds = listed.front;
      value = v.ensures.value;
      losses = losses-front (given_of ns cs a.task.now a.picks) a.floats.now a.scratch.now _ v.new.out _ m v.ensures.out_after;
      first = omega (arith, listed.few, v.auto.out);
      poses = omega (arith, c.requires.0.sheet.links, v.auto.poses);
      again = omega (arith, listed.few);
    }
