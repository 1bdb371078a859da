-- The goal losses that a raised joint touches: those of its own chain, six with tolerances or two strict ones, and none of another chain.
use Rattle.std.specs.Prelude.{◌≡◌, Bool, true, false, Some, List, length}
use Rattle.std.proofs.Common.{◌∙◌, ⊎_elim, arith}
use Rattle.std.proofs.Math.Logic.{inl, inr}
use Prim.Native.Nat.{ℕ, ◌+◌, ◌-◌, ◌≤◌, ◌<◌}
use Rattle.std.proofs.Math.ListN.{get_or}
use borrow.Author.Tests.{lt-ltb, le-leb}
use Rattle.sheet.specs.Chain.{end_in, chain_start, joint_of, below_or, chain-start-next, chain-start-mono, end-of-chain}
use Rattle.spacetime.specs.Frames.{Chains}
use Rattle.manipulability.specs.View.{walked_again}
use Rattle.objective_master.specs.Objective.{Objective, MatchEEPosiDoF, MatchEERotaDoF, MatchEEPosGoals, MatchEEQuatGoals}
use Rattle.objective_master.specs.Cached.{end_again, touched}
use Rattle.one_block.specs.Slope.{walked-false}

-- link k of chain c; every chain has a link
module _ (ns cs : List ℕ) (chains : Chains ns) (c k : ℕ) (h : c < length ns) (after : chain_start ns c ≤ k) (before : k < chain_start ns c + get_or ns c 0) where
  -- whether an objective is evaluated again at the turn of k's joint: the links from k to the end of its chain are walked again (see cached-copy)
  abbrev again : Objective → Bool
  again = touched ns k (end_in ns k) (Some (joint_of cs k))

  -- the links walked again end where chain c ends
  pub own-end : end_in ns k ≡ chain_start ns c + get_or ns c 0
  own-end = end-of-chain ns c k h after before ∙ chain-start-next ns c

  -- so chain c's last link is among them
  own-last : end_again ns k (end_in ns k) c ≡ true
  unfolding end_again walked_again
  own-last =
      let l : ℕ = chain_start ns c + get_or ns c 0 - 1 in
      rw (le-leb k l (omega arith), lt-ltb l (end_in ns k) (omega (arith, own-end)))

  -- and no other chain's
  other_last : (d : ℕ) → d < length ns → (d ≡ c → ⊥) → end_again ns k (end_in ns k) d ≡ false
  unfolding end_again
  other_last d g ne =
      walked-false k (end_in ns k) (chain_start ns d + get_or ns d 0 - 1)
      (⊎_elim
      (λ (b : d < c). inl (omega (arith, chains.some d g, chain-start-next ns d, chain-start-mono ns (d + 1) c (omega arith))))
      (λ (b : c ≤ d). inr (omega (arith, own-end, chains.some d g, chain-start-next ns c, chain-start-mono ns (c + 1) d (omega arith))))
      (below_or d c))

  -- its own chain's goal losses are evaluated again: position and rotation, on every axis
  pub own-goal : (a : ℕ) → (again (MatchEEPosiDoF c a) ≡ true) × (again (MatchEERotaDoF c a) ≡ true)
  unfolding touched
  own-goal a = (own-last, own-last)

  -- another chain's are not
  pub other-goal : (d : ℕ) → d < length ns → (d ≡ c → ⊥) → (a : ℕ) → (again (MatchEEPosiDoF d a) ≡ false) × (again (MatchEERotaDoF d a) ≡ false)
  unfolding touched
  other-goal d g ne a = (other_last d g ne, other_last d g ne)

  -- and so with strict goals
  pub own-strict-goal : (again (MatchEEPosGoals c) ≡ true) × (again (MatchEEQuatGoals c) ≡ true)
  unfolding touched
  own-strict-goal = (own-last, own-last)

  pub other-strict-goal : (d : ℕ) → d < length ns → (d ≡ c → ⊥) → (again (MatchEEPosGoals d) ≡ false) × (again (MatchEEQuatGoals d) ≡ false)
  unfolding touched
  other-strict-goal d g ne = (other_last d g ne, other_last d g ne)
