-- `floats` meets its contract: the floats' bytes go to the front of a list that has room for them.
use mathlib.Core.Path.{refl, ap, ◌∙◌}
use Rattle.stored_answers.specs.Agree.{same_answer}
use mathlib.Core.List.{List, [], ◌∷◌}
use Prim.Native.Nat.{ℕ, ◌*◌}
use native.Mathlib.Omega.{arith}
use lib.ListN.{length}
use Rattle.lent_bytes.specs.Lent.{bytes_of, bytes-length, front, front_of}
use Rattle.replay_calls.specs.Table.{answered_list}
use Rattle.replay.proofs.leaf_cases.floats.Goals as goal

pub slice_bounds-agrees-end : goal.slice_bounds-agrees-end
slice_bounds-agrees-end c =
    let x = c.args.xs.now in
    (front_of _ c.put_floats.new.out (bytes_of x) (8 * length x) c.put_floats.ensures (bytes-length x) (omega (arith, c.requires))).sized

pub returns : goal.returns
returns c =
    let x = c.args.xs.now in
    c.agrees.ensures ∙ same_answer _ _ answered_list refl (ap (λ (l : List ℕ). l ∷ []) (front _ c.put_floats.new.out (bytes_of x) (8 * length x) c.put_floats.ensures (bytes-length x)))
