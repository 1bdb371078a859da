-- How long a call's lists are, each length said once: 7 asks it of a joint block and a history, 9 of every output, scratch and record list, 10 of weights, 11 of a tool.
-- ns are the links per chain, cs the codes. The record's entries are `entries_of` (one_block), the objectives the list `objectives` (objective_master).
use Rattle.std.specs.Prelude.{◌≡◌, refl, List, [], ◌∷◌, ℕ, ◌+◌, ◌*◌, ◌≤◌, length}
use Rattle.std.proofs.Common.{arith}
use Rattle.sheet.specs.Chain.{total, joints}

-- positions of frames: L + 1 for a chain of L links, three floats each
unfoldable pub positions_length : List ℕ → ℕ
positions_length [] = 0
positions_length (L ∷ ns) = 3 * (L + 1) + positions_length ns

-- rotations of frames: L + 2 for a chain of L links, four floats each
unfoldable pub rotations_length : List ℕ → ℕ
rotations_length [] = 0
rotations_length (L ∷ ns) = 4 * (L + 2) + rotations_length ns

-- end poses: one a chain, seven floats each
unfoldable pub ends_length : List ℕ → ℕ
ends_length ns = 7 * length ns

-- a joint block: one float a joint
abbrev pub block_length : List ℕ → ℕ
block_length cs = joints cs

-- a scratch block, and the slopes of a gradient
abbrev pub scratch_length : List ℕ → ℕ
scratch_length cs = joints cs

abbrev pub slopes_length : List ℕ → ℕ
slopes_length cs = joints cs

-- a history: four joint blocks
abbrev pub history_length : List ℕ → ℕ
history_length cs = 4 * joints cs

-- a call's value: one float
abbrev pub value_length : ℕ
value_length = 1

-- the weights: one a kind of objective
abbrev pub weights_length : ℕ
weights_length = 8

-- a tool: displacement and offset
abbrev pub tool_length : ℕ
tool_length = 7

-- what sizing writes: four u16s
abbrev pub plan_length : ℕ
plan_length = 4

-- the poses of a record: seven floats an entry
abbrev pub record_poses_length : ℕ → ℕ
record_poses_length entries = 7 * entries

-- ---- laws: the sums over the chains
pub positions-sum : (ns : List ℕ) → positions_length ns ≡ 3 * (total ns + length ns)
unfolding positions_length total
positions-sum [] = refl
positions-sum (L ∷ ns) = omega (arith, positions-sum ns)

pub rotations-sum : (ns : List ℕ) → rotations_length ns ≡ 4 * (total ns + 2 * length ns)
unfolding rotations_length total
rotations-sum [] = refl
rotations-sum (L ∷ ns) = omega (arith, rotations-sum ns)

-- ---- laws: room for every sheet, which has at most four chains and 64 links
module _ (ns : List ℕ) (few : length ns ≤ 4) where
  pub ends-most : ends_length ns ≤ 28
  unfolding ends_length
  ends-most = omega (arith, few)

  pub positions-most : total ns ≤ 64 → positions_length ns ≤ 204
  positions-most h = omega (arith, few, positions-sum ns)

  pub rotations-most : total ns ≤ 64 → rotations_length ns ≤ 288
  rotations-most h = omega (arith, few, rotations-sum ns)
