-- `put_one_block` meets its contract: the outputs are the bytes of value, slopes and record.
use mathlib.Core.Path.{refl, sym, ap, ◌∙◌}
use mathlib.Core.List.{List, [], ◌∷◌}
use Prim.Native.Nat.{ℕ, ◌*◌}
use native.Mathlib.Omega.{arith}
use lib.Ieee.{Float}
use lib.ListN.{length}
use Rattle.lists.specs.Splice.{splice}
use Rattle.gradient.specs.declared.slopes.Rule.TheVariants.{EachLoss}
use Rattle.calls.specs.Arms.{taken}
use Rattle.lent_bytes.specs.Lent.{front, bytes_of, bytes_of_numbers}
use Rattle.lent_bytes.specs.SheetLists.{SheetLists, sheet_with}
use Rattle.objective_bytes.specs.ObjectiveLaws.{slopes-in-length}
use Rattle.one_block_bytes.specs.OneBlockCalls.{record_joints_in, record_links_in, record_poses_in}
use Rattle.one_block_bytes.specs.OneBlockLaws.{task-counted, joints-in-length, links-in-length, poses-in-length}
use Rattle.one_block_bytes.proofs.one_block_lists.put_one_block.Goals as goal

pub one_block_on-v-requires : goal.one_block_on-v-requires
one_block_on-v-requires c =
    record {
      passed = c.requires.fitted.accepted;
      slopes_len = (refl, refl, refl);
      limits_in_bounds = c.requires.limits_in_bounds;
    }

pub put_slopes-requires : goal.put_slopes-requires
put_slopes-requires c =
    let t = c.requires.fitted in
    (omega (arith, t.few, c.one_block_on-v.auto.block, c.one_block_on-v.auto.slopes), t.value_room, omega (arith, t.slopes-room, c.one_block_on-v.auto.block))

pub entries-m-requires : goal.entries-m-requires
entries-m-requires c =
    let sheet : SheetLists = sheet_with c.args.sizes.now c.args.codes.now c.args.floats.now c.args.limits.now in
    task-counted (sheet) _ _ _ c.requires.fitted.accepted.0

pub put_record-requires : goal.put_record-requires
put_record-requires c =
    let t = c.requires.fitted in
    let m = c.entries-m.ensures in record {
      n_in_bounds = (omega (arith, m, t.entries, c.one_block_on-v.auto.record_joints), omega (arith, m, t.entries, c.one_block_on-v.auto.record_links), omega (arith, m, c.requires.limits_in_bounds, c.one_block_on-v.auto.record_poses));
      n_in_bounds_2 = (omega (arith, m, t.joints-room), omega (arith, m, t.links-room), omega (arith, m, t.poses-room));
    }

pub returns : goal.returns
returns c =
    let sheet : SheetLists = sheet_with c.args.sizes.now c.args.codes.now c.args.floats.now c.args.limits.now in
    let block : List Float = c.args.block.now in
    let a = c.args in
    let m = c.entries-m.ensures in
    let l = slopes-in-length EachLoss (sheet) _ a.picks (block) ∙ sym (ap length c.one_block_on-v.ensures.block_unchanged) in record {
      value_after = c.put_slopes.ensures.value_after ∙ ap (λ (v : Float). splice a.value.now 0 (bytes_of (v ∷ []))) c.one_block_on-v.ensures.value ∙ sym (taken 0 _ _ refl);
      slopes_after = c.put_slopes.ensures.slopes_after ∙ ap (λ (y : List Float). splice a.slopes.now 0 (bytes_of y)) (front _ _ _ _ c.one_block_on-v.ensures.slopes_after l) ∙ sym (taken 0 _ _ refl);
      record_written = (
        c.put_record.ensures.record_joints_after ∙ ap (λ (y : List ℕ). splice a.record_joints.now 0 (bytes_of_numbers y)) (front _ _ (record_joints_in (sheet)) _ c.one_block_on-v.ensures.record_held.0 (joints-in-length (sheet) ∙ sym m)) ∙ sym (taken 0 _ _ refl),
        c.put_record.ensures.record_links_after ∙ ap (λ (y : List ℕ). splice a.record_links.now 0 (bytes_of_numbers y)) (front _ _ (record_links_in (sheet)) _ c.one_block_on-v.ensures.record_held.1 (links-in-length (sheet) ∙ sym m)) ∙ sym (taken 0 _ _ refl),
        c.put_record.ensures.record_poses_after ∙ ap (λ (y : List Float). splice a.record_poses.now 0 (bytes_of y))
            (front _ _ (record_poses_in (sheet) (block)) _ c.one_block_on-v.ensures.record_held.2 (poses-in-length (sheet) (block) ∙ ap (λ (k : ℕ). 7 * k) (sym m))) ∙ sym (taken 0 _ _ refl),
      );
    }
