-- The refusals from the input: a condition for each number, in the numbers' order, and the number of each call. 0 is accepted.
use Rattle.std.specs.Prelude.{Bool, true, false, cond, not, ◌&&◌, ◌||◌, List, [], ◌∷◌, ◌++◌, ℕ, ◌+◌, ◌*◌, eqb, leb, ltb, Float, length, get_or, drop}
use Rattle.std.specs.Float.{binary64, nan}
use Rattle.std.specs.Float.Ieee.{of_bits, le}
use Rattle.standins.specs.Num.{◌⊖◌, nought}
use Rattle.sheet.specs.declared.code.Kind.{Kind}
use Rattle.sheet.specs.declared.code.Kind.TheVariants.{Fixed, Turning, Sliding, Telescoping, Unlisted}
use Rattle.sheet.specs.Code.{has_joint, kind_of}
use Rattle.sheet.specs.Chain.{total, joint_of, joints, chain_length}
use Rattle.sheet.specs.Tool.{has_tool}
use Rattle.groove.specs.Loss.{free_of}
use Rattle.refusals.specs.Range.{every, between, within, within_at, unit_at}
use Rattle.refusals.specs.Lowest.{lowest}
use Rattle.refusals.specs.Lengths.{block_length, history_length, weights_length, tool_length}

-- the sizes list: the chain count, then the links per chain
abbrev pub chains_of : List ℕ → ℕ
chains_of sizes = get_or sizes 0 0

abbrev pub links_of : List ℕ → List ℕ
links_of sizes = drop 1 sizes

-- chain c has 1..16 links
unfoldable pub links_fit : List ℕ → ℕ → Bool
links_fit ns c = between 1 16 (get_or ns c 0)

-- 1. Sizes list empty, its length not chains + 1, chains not 1..4, or links not 1..16.
unfoldable pub bad_sizes : List ℕ → Bool
bad_sizes sizes =
    eqb (length sizes) 0
    || not (eqb (length sizes) (chains_of sizes + 1))
    || not (between 1 4 (chains_of sizes))
    || not (every (links_fit (links_of sizes)) (length (links_of sizes)))

-- 2. Codes not one, or floats not seven, a link. (ns are the links per chain; of the floats only their number counts)
unfoldable pub bad_lengths : List ℕ → List ℕ → ℕ → Bool
bad_lengths ns codes floats = not (eqb (length codes) (total ns)) || not (eqb floats (7 * total ns))

-- every kind but the one for unlisted codes
unfoldable pub listed_kind : Kind → Bool
listed_kind Fixed = true
listed_kind (Turning a) = true
listed_kind (Sliding a) = true
listed_kind (Telescoping a) = true
listed_kind Unlisted = false

-- code k is listed
unfoldable pub listed_code : ℕ → Bool
listed_code k = listed_kind (kind_of k)

-- link l's code is listed
unfoldable pub listed_at : List ℕ → ℕ → Bool
listed_at codes l = listed_code (get_or codes l 0)

-- 3. Unlisted code.
unfoldable pub bad_codes : List ℕ → Bool
bad_codes codes = not (every (listed_at codes) (length codes))

-- chain c has at least 2 joints
unfoldable pub two_joints : List ℕ → List ℕ → ℕ → Bool
two_joints ns codes c = leb 2 (chain_length ns codes c)

-- chain c is chain 0, or has no more joints than chain 0 has links
unfoldable pub later_fits : List ℕ → List ℕ → ℕ → Bool
later_fits ns codes c = eqb c 0 || leb (chain_length ns codes c) (get_or ns 0 0)

-- 4. A chain under 2 joints, more than 16 in all, or a later chain with more joints than chain 0 has links.
unfoldable pub bad_joints : List ℕ → List ℕ → Bool
bad_joints ns codes =
    not (every (two_joints ns codes) (length ns)) || ltb 16 (joints codes) || not (every (later_fits ns codes) (length ns))

-- 100
abbrev pub hundred : Float
hundred = of_bits binary64 0x4059_0000_0000_0000

-- within -100..100 with upper - lower >= 0.001
unfoldable pub ranged_pair : Float → Float → Bool
ranged_pair lower upper = within hundred lower && within hundred upper && le (of_bits binary64 0x3f50_624d_d2f1_a9fc) (upper ⊖ lower)

-- exactly -999, 999, or such a range
unfoldable pub pair_fits : Float → Float → Bool
pair_fits lower upper = free_of lower upper || ranged_pair lower upper

-- joint j's pair fits: lower, then upper
unfoldable pub limits_fit : List Float → ℕ → Bool
limits_fit limits j = pair_fits (get_or limits (2 * j) nan) (get_or limits (2 * j + 1) nan)

-- 5. Limits not two a joint; or a pair neither exactly -999, 999 nor within -100..100 with upper - lower >= 0.001.
unfoldable pub bad_limits : ℕ → List Float → Bool
bad_limits joints limits = not (eqb (length limits) (2 * joints)) || not (every (limits_fit limits) joints)

-- the seven floats from at on fit a link: the displacement within -10..10, the offset's squares' sum near 1
unfoldable pub seven_fit : List Float → ℕ → Bool
seven_fit floats at = every (within_at (of_bits binary64 0x4024_0000_0000_0000) floats at) 3 && unit_at floats (at + 3)

-- link l's seven floats fit
unfoldable pub link_fits : List Float → ℕ → Bool
link_fits floats l = seven_fit floats (7 * l)

-- 6. Displacement not within -10..10; offset whose squares' sum is outside 0.999999999..1.000000001.
unfoldable pub bad_floats : ℕ → List Float → Bool
bad_floats links floats = not (every (link_fits floats) links)

-- 8
abbrev pub eight : Float
eight = of_bits binary64 0x4020_0000_0000_0000

-- 64
abbrev pub sixty_four : Float
sixty_four = of_bits binary64 0x4050_0000_0000_0000

-- how far a joint may go to either side, by its link's kind (change 7): a revolute or continuous one 64, a sliding one 8. 8 stands for the other two: a fixed link has
-- no joint, and a sheet with an unlisted code is refused by 3.
unfoldable pub joint_range : Kind → Float
joint_range Fixed = eight
joint_range (Turning a) = sixty_four
joint_range (Sliding a) = eight
joint_range (Telescoping a) = eight
joint_range Unlisted = eight

-- the value of a joint is in the range of its link's code
unfoldable pub joint_fits : ℕ → Float → Bool
joint_fits code v = within (joint_range (kind_of code)) v

-- the value at a place fits a link of that code; a fixed link has no joint and asks nothing
unfoldable pub value_fits : ℕ → List Float → ℕ → Bool
value_fits code xs at = cond (has_joint code) (joint_fits code (get_or xs at nan)) true

-- link l's joint fits, in the joint block that starts at at
unfoldable pub link_value_fits : List ℕ → List Float → ℕ → ℕ → Bool
link_value_fits codes xs at l = value_fits (get_or codes l 0) xs (at + joint_of codes l)

-- every joint of the block that starts at at
unfoldable pub block_fits : List ℕ → List Float → ℕ → Bool
block_fits codes xs at = every (link_value_fits codes xs at) (length codes)

-- 7. Joint block of wrong length, or a value not within its joint's range.
unfoldable pub bad_block : List ℕ → List Float → Bool
bad_block codes x = not (eqb (length x) (block_length codes)) || not (block_fits codes x 0)

-- number b of the blocks of a history
unfoldable pub history_fits : List ℕ → List Float → ℕ → Bool
history_fits codes history b = block_fits codes history (b * block_length codes)

-- 7. History of wrong length, or one of its four blocks with a value not within its joint's range.
unfoldable pub bad_history : List ℕ → List Float → Bool
bad_history codes history = not (eqb (length history) (history_length codes)) || not (every (history_fits codes history) 4)

-- chain c's 13 floats fit: the position within -100..100, the six tolerances after the quaternion too, the quaternion's squares' sum near 1
unfoldable pub goal_fits : List Float → ℕ → Bool
goal_fits goals c =
    every (within_at hundred goals (13 * c)) 3 && every (within_at hundred goals (13 * c + 7)) 6 && unit_at goals (13 * c + 3)

-- 8. Goals not 13 a chain; position or tolerance not within -100..100; quaternion as in 6.
unfoldable pub bad_goals : ℕ → List Float → Bool
bad_goals chains goals = not (eqb (length goals) (13 * chains)) || not (every (goal_fits goals) chains)

-- a weight is within 0..1000; -0.0 is
unfoldable pub weight_fits : Float → Bool
weight_fits w = le nought w && le w (of_bits binary64 0x408f_4000_0000_0000)

-- weight k of a list fits
unfoldable pub weight_fits_at : List Float → ℕ → Bool
weight_fits_at ws k = weight_fits (get_or ws k nan)

-- 10. Weights not eight, or one not within 0..1000.
unfoldable pub bad_weights : List Float → Bool
bad_weights ws = not (eqb (length ws) weights_length) || not (every (weight_fits_at ws) weights_length)

-- 11. A chain not loaded, a tool not of seven floats, or one that does not fit a link.
unfoldable pub bad_tool : ℕ → ℕ → List Float → Bool
bad_tool chains c tool = not (ltb c chains) || not (eqb (length tool) tool_length) || not (seven_fit tool 0)

-- of tools by chain, eight floats each: chain c has none, or it is loaded and the tool fits a link
unfoldable pub tool_fits : ℕ → List Float → ℕ → Bool
tool_fits chains tools c = not (has_tool tools c) || ltb c chains && seven_fit tools (8 * c + 1)

-- 11. Of four chains' tools: one for a chain not loaded, or one that does not fit a link. (A list not of seven floats stands there as NaNs, which fit none)
unfoldable pub bad_tools : ℕ → List Float → Bool
bad_tools chains tools = not (every (tool_fits chains tools) 4)

-- ---- the numbers
-- of a sheet's lengths and codes: conditions 1 to 4
abbrev pub shape_conditions : List ℕ → List ℕ → ℕ → List Bool
shape_conditions sizes codes floats =
    bad_sizes sizes ∷ bad_lengths (links_of sizes) codes floats ∷ bad_codes codes ∷ bad_joints (links_of sizes) codes ∷ []

unfoldable pub shape_refusal : List ℕ → List ℕ → ℕ → ℕ
shape_refusal sizes codes floats = lowest (shape_conditions sizes codes floats)

-- of a sheet: conditions 1 to 6, of which the fifth, on the limits, is given
abbrev pub sheet_conditions : List ℕ → List ℕ → List Float → Bool → List Bool
sheet_conditions sizes codes floats five =
    shape_conditions sizes codes (length floats) ++ (five ∷ bad_floats (length codes) floats ∷ [])

-- of loading
abbrev pub load_conditions : List ℕ → List ℕ → List Float → List Float → List Bool
load_conditions sizes codes floats limits = sheet_conditions sizes codes floats (bad_limits (joints codes) limits)

unfoldable pub load_refusal : List ℕ → List ℕ → List Float → List Float → ℕ
load_refusal sizes codes floats limits = lowest (load_conditions sizes codes floats limits)

-- of sizing: as at loading, but 5 is no part of it
abbrev pub sizing_conditions : List ℕ → List ℕ → List Float → List Bool
sizing_conditions sizes codes floats = sheet_conditions sizes codes floats false

unfoldable pub sizing_refusal : List ℕ → List ℕ → List Float → ℕ
sizing_refusal sizes codes floats = lowest (sizing_conditions sizes codes floats)

-- of a joint block
unfoldable pub block_refusal : List ℕ → List Float → ℕ
block_refusal codes x = cond (bad_block codes x) 7 0

-- of a history, which is four joint blocks
unfoldable pub history_refusal : List ℕ → List Float → ℕ
history_refusal codes history = cond (bad_history codes history) 7 0

-- of goals
unfoldable pub goals_refusal : ℕ → List Float → ℕ
goals_refusal chains goals = cond (bad_goals chains goals) 8 0

-- 9. Output, scratch or record list too short.
unfoldable pub room_refusal : ℕ → ℕ → ℕ
room_refusal needed have = cond (ltb have needed) 9 0

-- of weights
unfoldable pub weights_refusal : List Float → ℕ
weights_refusal ws = cond (bad_weights ws) 10 0

-- of a tool for chain c
unfoldable pub tool_refusal : ℕ → ℕ → List Float → ℕ
tool_refusal chains c tool = cond (bad_tool chains c tool) 11 0

-- of four chains' tools
unfoldable pub tools_refusal : ℕ → List Float → ℕ
tools_refusal chains tools = cond (bad_tools chains tools) 11 0
