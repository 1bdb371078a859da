-- The chains of a robot do not touch one another: the frames of a chain depend on its own joints alone.
use Rattle.std.specs.Prelude.{◌≡◌, refl, Bool, true, false, cond, List, ℕ, ◌+◌, ◌≤◌, ◌<◌, Float, get_or}
use Rattle.std.proofs.Common.{arith}
use Rattle.std.specs.Float.{nan}
use Rattle.standins.specs.Num.{nought}
use Rattle.sheet.specs.Code.{has_joint, joint-there}
use Rattle.sheet.specs.Chain.{chain_start, joint_of, joint-mono, joint-below, first-of-chain}
use Rattle.spacetime.specs.Walk.{value_of, pose_of, pose-same}

-- blocks x and y agree at every joint of chain c
abbrev pub Agree : List ℕ → List ℕ → List Float → List Float → ℕ → Type 0
Agree ns cs x y c = (j : ℕ) → joint_of cs (chain_start ns c) ≤ j → j < joint_of cs (chain_start ns (c + 1)) → get_or x j nan ≡ get_or y j nan

-- a link reads the same of two blocks that agree at its joint, if it has one
value_same : (cs : List ℕ) (x y : List Float) (l j : ℕ) → ((get_or cs l 0 ≡ 0 → ⊥) → get_or x j nan ≡ get_or y j nan) → value_of cs x l j ≡ value_of cs y l j
unfolding value_of
value_same cs x y l j agree = go (has_joint (get_or cs l 0)) refl
  where
    go : (t : Bool) → has_joint (get_or cs l 0) ≡ t → cond t (get_or x j nan) nought ≡ cond t (get_or y j nan) nought
    go false q = refl
    go true q = agree (joint-there (get_or cs l 0) q)

-- links and joints are numbered across chains
pub chain-apart : (ns cs : List ℕ) (gs x y : List Float) (c : ℕ) → Agree ns cs x y c
    → (l : ℕ) → chain_start ns c ≤ l → l < chain_start ns (c + 1) → pose_of ns cs gs x l ≡ pose_of ns cs gs y l
chain-apart ns cs gs x y c agree l from below =
    pose-same ns cs gs x y (chain_start ns c) (first-of-chain ns c) l from
    (λ k g h. value_same cs x y k (joint_of cs k) (λ has. agree (joint_of cs k) (joint-mono cs (chain_start ns c) k g) (joint-below cs k (chain_start ns (c + 1)) (omega arith) has)))
