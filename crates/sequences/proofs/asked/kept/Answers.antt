-- `kept` meets its contract: list after list.
use mathlib.Core.Path.{◌≡◌, refl, sym}
use mathlib.Core.List.{[], ◌∷◌}
use lib.ListN.{length}
use Rattle.stored_answers.specs.Agree.{agrees-begin, agrees_on}
use Rattle.sequences.specs.Table.{kept_lists}
use Rattle.sequences.specs.Asked.{kept_agrees}
use borrow.Author.Rules.{rules}
use Rattle.sequences.proofs.asked.kept.Goals as goal

pub slice_bounds-elements-end-2 : goal.slice_bounds-elements-end-2
slice_bounds-elements-end-2 c =
    let arrays : let p = c.args.state.party in (length p.goals ≡ 52) × (length p.history.xopt ≡ 16) × (length p.history.prev_state ≡ 16) × (length p.history.prev_state2 ≡ 16) × (length p.history.prev_state3 ≡ 16) × (length p.start_poses ≡ 28) = search rules in
    sym (arrays).1

pub slice_bounds-elements-end-3 : goal.slice_bounds-elements-end-3
slice_bounds-elements-end-3 c =
    let arrays : let p = c.args.state.party in (length p.goals ≡ 52) × (length p.history.xopt ≡ 16) × (length p.history.prev_state ≡ 16) × (length p.history.prev_state2 ≡ 16) × (length p.history.prev_state3 ≡ 16) × (length p.start_poses ≡ 28) = search rules in
    sym (arrays).2

pub slice_bounds-elements-end-4 : goal.slice_bounds-elements-end-4
slice_bounds-elements-end-4 c =
    let arrays : let p = c.args.state.party in (length p.goals ≡ 52) × (length p.history.xopt ≡ 16) × (length p.history.prev_state ≡ 16) × (length p.history.prev_state2 ≡ 16) × (length p.history.prev_state3 ≡ 16) × (length p.start_poses ≡ 28) = search rules in
    sym (arrays).3

pub slice_bounds-elements-end-5 : goal.slice_bounds-elements-end-5
slice_bounds-elements-end-5 c =
    let arrays : let p = c.args.state.party in (length p.goals ≡ 52) × (length p.history.xopt ≡ 16) × (length p.history.prev_state ≡ 16) × (length p.history.prev_state2 ≡ 16) × (length p.history.prev_state3 ≡ 16) × (length p.start_poses ≡ 28) = search rules in
    sym (arrays).4

pub slice_bounds-elements-end-6 : goal.slice_bounds-elements-end-6
slice_bounds-elements-end-6 c =
    let arrays : let p = c.args.state.party in (length p.goals ≡ 52) × (length p.history.xopt ≡ 16) × (length p.history.prev_state ≡ 16) × (length p.history.prev_state2 ≡ 16) × (length p.history.prev_state3 ≡ 16) × (length p.start_poses ≡ 28) = search rules in
    sym (arrays).5

pub returns : goal.returns
unfolding kept_agrees
returns c =
    let first = agrees_on _ _ _ kept_lists [] (agrees-begin _ _ kept_lists c.number-a.ensures refl) refl c.elements-b.ensures in
    let second = agrees_on _ _ _ kept_lists (_ ∷ []) first refl c.elements-c.ensures in
    let third = agrees_on _ _ _ kept_lists (_ ∷ _ ∷ []) second refl c.elements-d.ensures in
    let fourth = agrees_on _ _ _ kept_lists (_ ∷ _ ∷ _ ∷ []) third refl c.elements-e.ensures in
    let fifth = agrees_on _ _ _ kept_lists (_ ∷ _ ∷ _ ∷ _ ∷ []) fourth refl c.elements-f.ensures in
    agrees_on _ _ _ kept_lists (_ ∷ _ ∷ _ ∷ _ ∷ _ ∷ []) fifth refl c.elements.ensures
