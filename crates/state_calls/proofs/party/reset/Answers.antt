-- `reset` meets its contract: the end poses and the history are those of the block.
use mathlib.Core.Path.{◌≡◌, refl, sym, ap, ◌∙◌}
use mathlib.Core.Bool.{true}
use mathlib.Core.List.{List}
use native.Mathlib.Omega.{arith}
use lib.Ieee.{Float}
use lib.ListN.{length}
use borrow.Author.Tests.{ne_eqb}
use Rattle.lists.specs.Splice.{splice}
use Rattle.sheet.specs.Chain.{joints}
use Rattle.spacetime.specs.Frames.{ends_of}
use Rattle.groove.specs.declared.vars.History.{History}
use Rattle.groove.specs.Vars.{reset_of}
use Rattle.refusals.specs.Number.{paper_number, paper_number-some, refused, passed-on}
use Rattle.refusals.specs.Passed.{shape-passed, block-passed}
use Rattle.calls.specs.Frames.{pose-passed}
use Rattle.calls.specs.Arms.{taken}
use Rattle.state_calls.specs.State.{zeros, links_used, stored}
use Rattle.state_calls.specs.Load.{Outcome, outcome_of}
use Rattle.state_calls.specs.StoredSheet.{block_stored, stored_pose, in-use-accepted, pose-in-use, pose-kept}
use Rattle.state_calls.specs.Arms.{poses_of}
use Rattle.state_calls.specs.Party.{with_start, reset_state_of}
use borrow.Author.Rules.{rules}
use Rattle.state_calls.proofs.party.reset.Goals as goal

pub pose-requires : goal.pose-requires
pose-requires c =
    let sheet = c.in_ok-sheet.ensures.sheet in
    let codes : length c.args.state.arms.codes ≡ 64 = search rules in
    let floats : length c.args.state.arms.floats ≡ 448 = search rules in
    let tools : length c.args.state.arms.tools ≡ 32 = search rules in
    (in-use-accepted c.args.state.arms _ codes floats sheet, omega (arith, tools, sheet.chains, (stored _ _ sheet.have).few))

pub returns-in_err-pose : goal.returns-in_err-pose
unfolding reset_state_of outcome_of
returns-in_err-pose c =
    let a = c.args.state.arms in
    let x = c.args.joints.now in
    let e = c.in_err-pose.field-0.0 in
    let number : paper_number e ≡ block_stored a.sizes a.codes x =
    c.in_err-pose.ensures.number ∙ pose-in-use a _ x 28 c.in_ok-sheet.ensures.sheet ∙ pose-kept a.sizes a.codes x in
    rw (refused _ e (passed-on _ e c.from_residual-in_err-pose.ensures.1), ← number, ne_eqb (paper_number e) 0 (λ z. omega (arith, paper_number-some e, z)))

pub padded16-requires : goal.padded16-requires
padded16-requires c =
    let sheet = c.in_ok-sheet.ensures.sheet in
    omega (arith, block-passed _ c.args.joints.now (pose-passed _ _ _ _ (sym c.in_ok-pose.ensures.number)).0, ap joints sheet.codes, (shape-passed _ _ _ (stored _ _ sheet.have).shape).moving)

pub returns : goal.returns
unfolding reset_state_of outcome_of with_start stored_pose
returns c =
    let s = c.args.state in
    let x = c.args.joints.now in
    let i = c.in_ok-sheet.ensures.sheet in
    let number : block_stored s.arms.sizes s.arms.codes x ≡ 0 =
    sym (c.in_ok-pose.ensures.number ∙ pose-in-use s.arms _ x 28 i ∙ pose-kept s.arms.sizes s.arms.codes x) in
    let ends = splice (zeros 28) 0 (ends_of (links_used s.arms.sizes) s.arms.tools (poses_of s x)) in
    let p : c.pose.new.ends ≡ ends = rw (i.counts, i.codes, i.floats) at (c.in_ok-pose.ensures.ends ∙ taken 0 _ _ refl) in
    let h = c.reset.ensures ∙ ap (λ (l : List Float). reset_of l (length x)) c.padded16.ensures in
    let begun : History → List Float → Outcome = λ history ends. record {
      number = 0;
      state = record {
        arms = s.arms;
        weights = s.weights;
        party = record { has_goals = s.party.has_goals; goals = s.party.goals; started = true; history = history; start_poses = ends };
      };
    } in
    rw number (ap (begun c.reset.result) p ∙ ap (λ (history : History). begun history ends) h)
