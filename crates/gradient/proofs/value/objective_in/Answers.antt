-- `objective_in` meets its contract: the kinds stand in front of their list.
use native.Mathlib.Omega.{arith}
use Rattle.objective_master.specs.Kinds.{kinds-length}
use Rattle.gradient.specs.Ready.{kinds-most, kinds-listed}
use Rattle.gradient.proofs.value.objective_in.Goals as goal

pub relaxed_ik-n-requires : goal.relaxed_ik-n-requires
relaxed_ik-n-requires c =
    let a = c.args in
    let ns = a.counts.now in
    let cs = a.codes.now in
    let r = c.requires.0 in record {
      counted = (r.paired.counted, r.sheet.chains);
      codes_in_bounds = omega (arith, kinds-most ns cs a.task.now a.picks a.floats.now a.x.now r, kinds-length a.picks ns cs);
    }

pub slice_bounds-kinds-end : goal.slice_bounds-kinds-end
slice_bounds-kinds-end c =
    let k = c.relaxed_ik-n in
    (kinds-listed _ _ _ _ _ _ c.requires.0 _ _ _ k.auto.kinds k.ensures.value k.ensures.kinds_after).within

pub slice_bounds-value_of-end : goal.slice_bounds-value_of-end
slice_bounds-value_of-end c =
    let k = c.relaxed_ik-n in
    (kinds-listed _ _ _ _ _ _ c.requires.0 _ _ _ k.auto.kinds k.ensures.value k.ensures.kinds_after).many

pub value_of-requires : goal.value_of-requires
value_of-requires c =
    let k = c.relaxed_ik-n in
    let listed = kinds-listed _ _ _ _ _ _ c.requires.0 _ _ _ k.auto.kinds k.ensures.value k.ensures.kinds_after in record {
      ready = (c.requires.0, listed.front);
      codes_in_bounds = (c.requires.1, listed.few);
    }
