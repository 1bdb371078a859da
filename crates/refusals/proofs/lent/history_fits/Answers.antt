use mathlib.Core.Path.{◌≡◌, refl, sym, ap, ◌∙◌}
use mathlib.Core.Bool.{Bool}
use mathlib.Core.List.{List}
use Prim.Native.Nat.{ℕ, ◌+◌, ◌*◌, ◌≤◌}
use native.Mathlib.Omega.{arith}
use lib.Ieee.{Float}
use lib.ListN.{length, get_or}
use Rattle.sheet.specs.Chain.{joints_of, joint-zero, joint-more, joint-mono, joint-last}
use Rattle.refusals.specs.Range.{every, every-none, every-turn, every-across}
use Rattle.refusals.specs.Refusal.{value_fits, link_value_fits, block_fits, history_fits}
use Rattle.refusals.proofs.lent.history_fits.Goals as goal

-- link l's joint fits in all four blocks
abbrev link_four : List ℕ → List Float → ℕ → ℕ → Bool
link_four codes history n l = every (λ (b : ℕ). link_value_fits codes history (b * n) l) 4

pub loop-l-init : goal.loop-l-init
loop-l-init c = (omega arith, sym (every-none _), sym (joint-zero c.args.codes.now))

pub joint_history_fits-ok-requires : goal.joint_history_fits-ok-requires
joint_history_fits-ok-requires c =
    let inside : c.loop-l.j + joints_of (get_or c.args.codes.now c.loop-l.l 0) ≤ c.args.n = let cs = c.args.codes.now in
    let l = c.loop-l.l in
    omega (arith, c.loop-l.invariant.2, joint-more cs l, joint-mono cs (l + 1) (length cs) (omega (arith, c.loop-l-test.true)), joint-last cs, c.requires) in
    omega (arith, inside, c.requires)

pub next_joint-j-requires : goal.next_joint-j-requires
next_joint-j-requires c =
    let inside : c.loop-l.j + joints_of (get_or c.args.codes.now c.loop-l.l 0) ≤ c.args.n = let cs = c.args.codes.now in
    let l = c.loop-l.l in
    omega (arith, c.loop-l.invariant.2, joint-more cs l, joint-mono cs (l + 1) (length cs) (omega (arith, c.loop-l-test.true)), joint-last cs, c.requires) in
    (c.loop-l-test.true, omega (arith, inside, c.well_formed))

pub loop-l-preserved : goal.loop-l-preserved
unfolding link_value_fits
loop-l-preserved c =
    let i = c.loop-l.invariant in
    let fits : ℕ → ℕ → Bool = λ (k j : ℕ). every (λ (b : ℕ). value_fits k c.args.history.now (b * c.args.n + j)) 4 in (
      omega arith,
      every-turn _ _ _ _ _ i.1 (c.joint_history_fits-ok.ensures ∙ ap (fits _) i.2) refl,
      omega (arith, c.next_joint-j.ensures, joint-more c.args.codes.now c.loop-l.l, i.2),
    )

pub returns : goal.returns
unfolding history_fits block_fits
returns c =
    let cs = c.args.codes.now in
    let fits : ℕ → ℕ → ℕ → Bool = λ (n b : ℕ). link_value_fits cs c.args.history.now (b * n) in
    let e : c.loop-l.l ≡ length cs = omega arith in
    c.loop-l.invariant.1
    ∙ ap (every _) e
    ∙ sym (every-across (fits c.args.n) 4 (length cs))
    ∙ ap (λ (n : ℕ). every (λ (b : ℕ). every (fits n b) (length cs)) 4) c.requires.0
