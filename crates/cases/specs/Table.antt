-- The cases that document 01 marks P, and some of its refusals, each computed from the definitions; what sizing answers, which weights and tools are taken, what a strict goal costs, where a telescoping joint moves and how far a joint turns among them.
use Rattle.std.specs.Prelude.{◌≡◌, refl, true, false, List, [], ◌∷◌, ◌++◌, map, ℕ, zero, suc, ◌*◌, negsuc, Float, length, replicate, Ok, Err}
use Rattle.std.specs.Float.{nan, inf, fin, binary64}
use Rattle.std.specs.Float.Ieee.{add, sub, mul, div, neg, eq, ne, lt, le, of_int, of_bits}
use Rattle.lists.specs.Runs.{runs}
use Rattle.lists.specs.Listed.{listed}
use Rattle.root.specs.Root.{root_of}
use Rattle.whole.specs.Whole.{whole_of}
use Rattle.standins.specs.Num.{◌⊕◌, ◌⊗◌, nought, half, one, two, whole, abs_of}
use Rattle.standins.specs.Reduction.{turn, unreduced, turned_of, reduced_of}
use Rattle.standins.specs.Cut.{cut_of}
use Rattle.standins.specs.Series.{down_from, sine_divisor, cosine_divisor, term_of, series_of, sine_series_of, cosine_series_of, sine_of, cosine_of, exp_term_of, exp_series_of, squarings, exp_of, halved_of, arc_term_of, arc_series_of, small_angle_of, atan2_of}
use Rattle.standins.specs.Power.{power20_of}
use Rattle.geometry.specs.declared.vector.Vec3.{Vec3}
use Rattle.geometry.specs.declared.quaternion.Quat.{Quat}
use Rattle.geometry.specs.Vector.{vec, zero_of, add_of, sub_of, scale_of, dot_of, cross_of, norm_of}
use Rattle.geometry.specs.Quaternion.{quat, product_of, inverse_of, axis_of, twice_of, rotate_of, identity_of, quat_x_of, quat_y_of, quat_z_of}
use Rattle.geometry.specs.declared.pose.Pose.{Pose}
use Rattle.geometry.specs.Pose.{origin_of}
use Rattle.geometry.specs.Segment.{inner_of, ended_of, closest_of, point_of, distance_of}
use Rattle.utils_rust.specs.Acos.{opposite_of, acute_of, acos_of}
use Rattle.utils_rust.specs.Transformations.{over_quat, quat_norm, from_quaternion, quaternion_log, quaternion_disp, angle_between_quaternion}
use Rattle.sheet.specs.Code.{has_joint, kind_of}
use Rattle.sheet.specs.Read.{kind_at}
use Rattle.sheet.specs.Tool.{has_tool}
use Rattle.sheet.specs.Chain.{first_in, end_in, total, chain_start, joints_of, joint_of, joints, chain_length}
use Rattle.task.specs.declared.picks.Picks.{Picks}
use Rattle.spacetime.specs.Link.{is_none, offset_of, signed_by, along_of, turn_of, joint_turn, about_of, turned_by, carried_of, slid_of, own_axis_of, telescoped_of, moved_of, extended_of, link_of}
use Rattle.spacetime.specs.Floats.{vec_at, quat_at, flat_vec, flat_quat, flat}
use Rattle.spacetime.specs.Walk.{value_of, after_link, start_of, before_of, pose_of}
use Rattle.spacetime.specs.Tool.{tip_of}
use Rattle.spacetime.specs.Frames.{position_at, rotation_at, positions_from, rotations_from, chain_positions, chain_rotations, positions_of, rotations_of, end_of}
use Rattle.groove.specs.Vars.{reset_of, update_of}
use Rattle.groove.specs.Loss.{tenth, evaluate_of, strict_loss, match_ee_pos_goals, match_ee_quat_goals, groove_loss, scaled_of, power_of, b_of, bounds_penalty, swamp_loss, free_of}
use Rattle.self_collision.specs.Pairs.{pairs_from, pairs_of, chain_pairs, all_pairs, chain_lengths}
use Rattle.objective_master.specs.Objective.{MatchEEPosiDoF, MatchEERotaDoF, MatchEEPosGoals, MatchEEQuatGoals, EachJointLimits, MinimizeVelocity, MinimizeAcceleration, MinimizeJerk, MaximizeManipulability, SelfCollision}
use Rattle.objective_master.specs.Weights.{kind_number, weight_of}
use Rattle.objective_master.specs.Objective.{goal_width, goal_objectives, limit_objective, motion_objectives, pair_objective, picked_list, objectives}
use Rattle.objective_master.specs.Strict.{min_of, negative_of, distance_from, angle_from, pos_goals_loss, quat_goals_loss}
use Rattle.sizing.specs.Sizing.{plan_of, planned_if, sizing_of}
use Rattle.one_block.specs.Record.{copy_of, record_of, again_of, joint_entry, link_entry, pose_entry, record_joints, record_links, record_poses, again_at, again_below, entries_of}
use Rattle.refusals.specs.declared.refusal.Refusal.TheVariants.{Joints}
use Rattle.refusals.specs.Number.{refusal_of}
use Rattle.refusals.specs.Range.{every, between, within, within_at, squares_of, near_one, unit_at}
use Rattle.refusals.specs.Lowest.{lowest_from, lowest}
use Rattle.refusals.specs.Lengths.{positions_length, rotations_length}
use Rattle.refusals.specs.Refusal.{links_fit, bad_sizes, bad_lengths, listed_kind, listed_code, listed_at, bad_codes, two_joints, later_fits, bad_joints, ranged_pair, pair_fits, limits_fit, bad_limits, link_fits, bad_floats, seven_fit, bad_tool, tool_fits, bad_tools, tool_refusal, tools_refusal, load_refusal, sizing_refusal, eight, sixty_four, joint_range, joint_fits, value_fits, link_value_fits, block_fits, bad_block, block_refusal, history_fits, bad_history, history_refusal, weight_fits, weight_fits_at, bad_weights, weights_refusal}

-- the point z above the origin, and the rotation that does not turn, as floats
abbrev high : Float → List Float
high z = flat_vec (vec nought nought z)

abbrev still : List Float
still = flat_quat (quat one nought nought nought)

-- a link's seven floats: displacement, offset
abbrev link : Vec3 → Quat → List Float
link d o = flat_vec d ++ flat_quat o

-- up 1, no offset
abbrev up : List Float
up = high one ++ still

-- n links, each up 1, no offset
abbrev ups : ℕ → List Float
ups zero = []
ups (suc n) = up ++ ups n

-- n revolute links
abbrev turning : ℕ → List ℕ
turning n = replicate n 13

-- a joint without limits
abbrev free : List Float
free = neg (of_bits binary64 0x408f_3800_0000_0000) ∷ of_bits binary64 0x408f_3800_0000_0000 ∷ []

abbrev thousand : Float
thousand = of_bits binary64 0x408f_4000_0000_0000

abbrev three : Float
three = of_bits binary64 0x4008_0000_0000_0000

-- the next floats above 8 and above 64
abbrev above-eight : Float
above-eight = of_bits binary64 0x4020_0000_0000_0001

abbrev above-sixty_four : Float
above-sixty_four = of_bits binary64 0x4050_0000_0000_0001

-- a pose at height z, not turned
abbrev straight : Float → Pose
straight z = record { position = vec nought nought z; rotation = quat one nought nought nought }

-- no tool for n chains, and a tool for one
abbrev bare : ℕ → List Float
bare n = replicate (8 * n) nought

abbrev tool : List Float → List Float
tool floats = one ∷ floats

-- what a caller picks
abbrev tolerances : Picks
tolerances = record { strict = false }

abbrev strict : Picks
strict = record { strict = true }

-- a robot of one chain of two links
abbrev pair : List ℕ
pair = 2 ∷ []

-- two links that stay where they are, the second turned half round z
abbrev half-turn : ℕ → Pose
half-turn = pose_of pair (30 ∷ 30 ∷ []) (link (vec nought nought nought) (quat one nought nought nought) ++ link (vec nought nought nought) (quat nought nought nought one)) (nought ∷ nought ∷ [])

abbrev quarter : Float
quarter = of_bits binary64 0x3fd0_0000_0000_0000

-- the pose after a link up 1 of that code, its joint at v, on a base turned half round x
abbrev on-turned-base : ℕ → Float → Pose
on-turned-base code v = pose_of pair (40 ∷ code ∷ []) (link (vec nought nought nought) (quat nought one nought nought) ++ up) (nought ∷ v ∷ []) 1

-- a robot of one chain of four links, the first and the last fixed
abbrev four : List ℕ
four = 4 ∷ []

abbrev between-fixed : List ℕ
between-fixed = 0 ∷ 13 ∷ 13 ∷ 0 ∷ []

-- the seven floats after link l of copy j
abbrev after : List Float → List Float → ℕ → ℕ → List Float
after gs x j l = flat (pose_of four between-fixed gs (copy_of x j) l)

-- What each case claims.
pub record Cases : Type 0 where
  -- groove at x = t = 0, with the width and factor of the goals: -1
  pub groove-centre : groove_loss nought nought tenth (whole 10) ≡ neg one
  -- swamp of 0 with bounds -1 and 1, with the factors of the limits: -1
  pub swamp-centre : swamp_loss nought (neg one) one (whole 10) (whole 10) 20 ≡ neg one
  -- two revolute links up 1, joints 0: positions z = 0, 1, 2
  pub turning-positions : positions_of pair (pose_of pair (13 ∷ 13 ∷ []) (up ++ up) (nought ∷ nought ∷ [])) ≡ high nought ++ (high one ++ high two)
  -- and four identity rotations
  pub turning-rotations : rotations_of pair (pose_of pair (13 ∷ 13 ∷ []) (up ++ up) (nought ∷ nought ∷ [])) ≡ still ++ (still ++ (still ++ still))
  -- prismatic none then prismatic z, both up 1, joints 0.5, 0.25: z = 0, 0, 1.25
  pub sliding : positions_of pair (pose_of pair (30 ∷ 33 ∷ []) (up ++ up) (half ∷ quarter ∷ [])) ≡ high nought ++ (high nought ++ high (of_bits binary64 0x3ff4_0000_0000_0000))
  -- prismatic none, offset (0,0,0,1), displacement 0; prismatic x, displacement (1,0,0), joints 0, 0.5: last x = -0.5
  pub sliding-back :
      (pose_of pair (30 ∷ 31 ∷ []) (link (vec nought nought nought) (quat nought nought nought one) ++ link (vec one nought nought) (quat one nought nought nought)) (nought ∷ half ∷ []) 1).position.x
      ≡ neg half
  -- telescoping none then telescoping z, both up 1, joints 0.5, 0.25: z = 0, 1, 2.25, the first displacement added and no move
  pub telescoping : positions_of pair (pose_of pair (40 ∷ 43 ∷ []) (up ++ up) (half ∷ quarter ∷ [])) ≡ high nought ++ (high one ++ high (of_bits binary64 0x4002_0000_0000_0000))
  -- a base turned half round x, then telescoping z, up 1, joint 0.25: z = -1.25; prismatic z in its place: z = -0.75
  pub telescoping-turned : (on-turned-base 43 quarter).position.z ≡ neg (of_bits binary64 0x3ff4_0000_0000_0000)
  pub sliding-unturned : (on-turned-base 33 quarter).position.z ≡ neg (of_bits binary64 0x3fe8_0000_0000_0000)
  -- document 01's case with telescoping x in the place of prismatic x: last x = -1.5
  pub telescoping-back :
      (pose_of pair (30 ∷ 41 ∷ []) (link (vec nought nought nought) (quat nought nought nought one) ++ link (vec one nought nought) (quat one nought nought nought)) (nought ∷ half ∷ []) 1).position.x
      ≡ neg (of_bits binary64 0x3ff8_0000_0000_0000)
  -- its own offset turns its axis: up 1, half round x, telescoping -z, joint 0.25: z = 0, 1, 2.25
  pub telescoping-offset : positions_of pair (pose_of pair (40 ∷ 46 ∷ []) (up ++ link (vec nought nought one) (quat nought one nought nought)) (half ∷ quarter ∷ []))
      ≡ high nought ++ (high one ++ high (of_bits binary64 0x4002_0000_0000_0000))
  -- codes 40 and 46 are taken, with two joints; 47 is refused; sizing is that of a revolute and a prismatic joint
  pub telescoping-taken : load_refusal (1 ∷ 2 ∷ []) (40 ∷ 46 ∷ []) (up ++ up) (free ++ free) ≡ 0
  pub telescoping-unlisted : load_refusal (1 ∷ 2 ∷ []) (40 ∷ 47 ∷ []) (up ++ up) (free ++ free) ≡ 3
  pub telescoping-sized : sizing_of tolerances (1 ∷ 2 ∷ []) (40 ∷ 46 ∷ []) (up ++ up) ≡ sizing_of tolerances (1 ∷ 2 ∷ []) (13 ∷ 33 ∷ []) (up ++ up)
  -- the record has a telescoping joint's copy as it has any other's
  pub telescoping-links : record_links four (0 ∷ 40 ∷ 43 ∷ 0 ∷ []) ≡ record_links four between-fixed
  pub telescoping-joints : record_joints four (0 ∷ 40 ∷ 43 ∷ 0 ∷ []) ≡ record_joints four between-fixed
  -- joint 8 of a telescoping link is taken, the next float above it is not
  pub telescoping-joint : block_refusal (40 ∷ 46 ∷ []) (eight ∷ eight ∷ []) ≡ 0
  pub telescoping-refused : block_refusal (40 ∷ 46 ∷ []) (eight ∷ above-eight ∷ []) ≡ 7
  -- reset a, update b, update c: c, b, a, a
  pub history : (a b c : List Float) (n : ℕ) → update_of (update_of (reset_of a n) b) c ≡ record { joints = n; xopt = c; prev_state = b; prev_state2 = a; prev_state3 = a }
  -- 7 joints: 32 objectives; chains of 6 and 3: 36
  pub seven-joints : length (objectives (picked_list tolerances) (7 ∷ [])) ≡ 32
  pub six-and-three : length (objectives (picked_list tolerances) (6 ∷ 3 ∷ [])) ≡ 36
  -- the same through sizing, on whole sheets
  pub seven-joints-sized : sizing_of tolerances (1 ∷ 7 ∷ []) (turning 7) (ups 7) ≡ Ok (record { positions = 24; rotations = 36; objectives = 32; entries = 35 })
  pub six-and-three-sized : sizing_of tolerances (2 ∷ 6 ∷ 3 ∷ []) (turning 9) (ups 9) ≡ Ok (record { positions = 33; rotations = 52; objectives = 36; entries = 36 })
  -- fixed, revolute, revolute, fixed: 9 walked, links 0 1 2 3 1 2 3 2 3, joints 65535 four times, 0 0 0 1 1
  pub record-count : entries_of four between-fixed ≡ 9
  pub record-sized : sizing_of tolerances (1 ∷ 4 ∷ []) between-fixed (ups 4) ≡ Ok (record { positions = 15; rotations = 24; objectives = 12; entries = 9 })
  pub record-links : record_links four between-fixed ≡ 0 ∷ 1 ∷ 2 ∷ 3 ∷ 1 ∷ 2 ∷ 3 ∷ 2 ∷ 3 ∷ []
  pub record-joints : record_joints four between-fixed ≡ 65535 ∷ 65535 ∷ 65535 ∷ 65535 ∷ 0 ∷ 0 ∷ 0 ∷ 1 ∷ 1 ∷ []
  -- each entry with the pose after its link in its copy's walk
  pub record-poses : (gs x : List Float) → record_poses four between-fixed gs x
      ≡ after gs x 65535 0 ++ (after gs x 65535 1 ++ (after gs x 65535 2 ++ (after gs x 65535 3
      ++ (after gs x 0 1 ++ (after gs x 0 2 ++ (after gs x 0 3 ++ (after gs x 1 2 ++ after gs x 1 3)))))))
  -- the root of 2^-1074 is 2^-537
  pub least-root : root_of (fin false 1 (negsuc 1073)) ≡ fin false 1 (negsuc 536)
  -- parallel unit segments 1 apart: 1
  pub parallel : distance_of (vec nought nought nought) (vec one nought nought) (vec nought one nought) (vec one one nought) ≡ one
  -- joint 8 of a prismatic link is taken, the next float above it is not
  pub joint-taken : block_refusal (33 ∷ 33 ∷ []) (eight ∷ eight ∷ []) ≡ 0
  pub joint-refused : block_refusal (33 ∷ 33 ∷ []) (eight ∷ above-eight ∷ []) ≡ 7
  -- a turning one has it at 64, on either side, with and without axis
  pub turning-taken : block_refusal (13 ∷ 26 ∷ 10 ∷ 20 ∷ []) (sixty_four ∷ neg sixty_four ∷ sixty_four ∷ neg sixty_four ∷ []) ≡ 0
  pub turning-refused : block_refusal (13 ∷ 26 ∷ []) (sixty_four ∷ neg above-sixty_four ∷ []) ≡ 7
  pub axisless-refused : block_refusal (10 ∷ 20 ∷ []) (sixty_four ∷ above-sixty_four ∷ []) ≡ 7
  -- each joint by its own code: 64 of the ring is taken beside 8 of a slide, and not the other way round
  pub ring-and-slide : block_refusal (13 ∷ 33 ∷ []) (sixty_four ∷ eight ∷ []) ≡ 0
  pub slide-and-ring : block_refusal (33 ∷ 13 ∷ []) (sixty_four ∷ eight ∷ []) ≡ 7
  -- so in the last of a history's four blocks
  pub history-taken : history_refusal (13 ∷ 33 ∷ []) (replicate 6 nought ++ (sixty_four ∷ eight ∷ [])) ≡ 0
  pub history-turn : history_refusal (13 ∷ 33 ∷ []) (replicate 6 nought ++ (above-sixty_four ∷ eight ∷ [])) ≡ 7
  pub history-slide : history_refusal (13 ∷ 33 ∷ []) (replicate 6 nought ++ (sixty_four ∷ above-eight ∷ [])) ≡ 7
  -- the whole number nearest 2.5 is 2, nearest 3.5 is 4, nearest -2.5 is -2
  pub tie_down : whole_of (of_bits binary64 0x4004_0000_0000_0000) ≡ two
  pub tie_up : whole_of (of_bits binary64 0x400c_0000_0000_0000) ≡ whole 4
  pub tie-negative : whole_of (neg (of_bits binary64 0x4004_0000_0000_0000)) ≡ neg two
  -- 4.5 is not reduced, the next float gives -1.7831853071795853; a turn gives +0; a NaN stays, an infinity gives a NaN
  pub unreduced-kept : (reduced_of unreduced ≡ unreduced) × (reduced_of (neg unreduced) ≡ neg unreduced)
  pub next-reduced : (reduced_of (of_bits binary64 0x4012_0000_0000_0001) ≡ of_bits binary64 0xbffc_87ed_5110_b45c) × (reduced_of (of_bits binary64 0xc012_0000_0000_0001) ≡ of_bits binary64 0x3ffc_87ed_5110_b45c)
  pub turn-reduced : (reduced_of turn ≡ nought) × (reduced_of (neg turn) ≡ nought)
  pub none-reduced : (reduced_of nan ≡ nan) × (reduced_of (inf false) ≡ nan) × (reduced_of (inf true) ≡ nan)
  -- of a turn and a half two are taken off, of two and a half two: -3.141592653589793 and 3.141592653589793
  pub ties-reduced : (reduced_of (of_bits binary64 0x4022_d97c_7f33_21d2) ≡ of_bits binary64 0xc009_21fb_5444_2d18) × (reduced_of (of_bits binary64 0x402f_6a7a_2955_385e) ≡ of_bits binary64 0x4009_21fb_5444_2d18)
  -- a joint at 64, raised: the half of 64.0000001 is 0.5840735141020659 beyond five turns, its sine 0.5514267229528564
  pub raised-half : reduced_of ((sixty_four ⊕ of_bits binary64 0x3e7a_d7f2_9abc_af48) ⊗ half) ≡ of_bits binary64 0x3fe2_b0ba_f030_e6c0
  pub raised-sine : sine_of ((sixty_four ⊕ of_bits binary64 0x3e7a_d7f2_9abc_af48) ⊗ half) ≡ of_bits binary64 0x3fe1_a549_a7a7_2294
  -- codes 12, 11, identity offsets, joints -1, 31.41592653589793: i of the last rotation is +0 (ties away from zero would give -0)
  pub tie-turned : (pose_of pair (12 ∷ 11 ∷ []) (ups 2) (neg one ∷ of_bits binary64 0x403f_6a7a_2955_385e ∷ []) 1).rotation.i ≡ nought
  -- a chain of one joint is refused, one of two is taken
  pub one-joint : load_refusal (1 ∷ 1 ∷ []) (13 ∷ []) up free ≡ 4
  pub one-joint-sized : sizing_of tolerances (1 ∷ 1 ∷ []) (13 ∷ []) up ≡ Err Joints
  pub two-joints : load_refusal (1 ∷ 2 ∷ []) (13 ∷ 13 ∷ []) (up ++ up) (free ++ free) ≡ 0
  -- eight weights are taken, -0.0 and 1000 among them; none, seven and nine are refused
  pub weights-taken : weights_refusal (neg nought ∷ thousand ∷ replicate 6 one) ≡ 0
  pub weights-none : weights_refusal [] ≡ 10
  pub weights-seven : weights_refusal (replicate 7 one) ≡ 10
  pub weights-nine : weights_refusal (replicate 9 one) ≡ 10
  -- so are the next float above 1000, the next below 0, and a NaN
  pub weights-above : weights_refusal (of_bits binary64 0x408f_4000_0000_0001 ∷ replicate 7 one) ≡ 10
  pub weights-below : weights_refusal (of_bits binary64 0x8000_0000_0000_0001 ∷ replicate 7 one) ≡ 10
  pub weights-nan : weights_refusal (nan ∷ replicate 7 one) ≡ 10
  -- two revolute links up 1, joints 0: the end at z = 2 without a tool, at z = 3 with one that is up 1
  pub end-bare : end_of pair (bare 1) (pose_of pair (13 ∷ 13 ∷ []) (up ++ up) (nought ∷ nought ∷ [])) 0 ≡ straight two
  pub end-up : end_of pair (tool up) (pose_of pair (13 ∷ 13 ∷ []) (up ++ up) (nought ∷ nought ∷ [])) 0 ≡ straight three
  -- an end turned half round z, a tool of displacement (0,1,0) and offset (0,1,0,0): y = -1, as the last frame turns it, and a half turn round y
  pub end-turned : (end_of pair (tool (link (vec nought one nought) (quat nought one nought nought))) half-turn 0).position.y ≡ neg one
  pub end-offset : (end_of pair (tool (link (vec nought one nought) (quat nought one nought nought))) half-turn 0).rotation.j ≡ one
  -- an offset (-1,0,0,0) is skipped
  pub end-skipped : (end_of pair (tool (link (vec nought one nought) (quat (neg one) nought nought nought))) half-turn 0).rotation ≡ quat nought nought nought one
  -- a tool for a chain that is loaded is taken; for one that is not, of no, six or eight floats, the next float beyond 10 or a NaN it is refused
  pub tool-taken : tool_refusal 1 0 up ≡ 0
  pub tool-unloaded : tool_refusal 1 1 up ≡ 11
  pub tool-none : tool_refusal 1 0 [] ≡ 11
  pub tool-six : tool_refusal 1 0 (replicate 6 nought) ≡ 11
  pub tool-eight : tool_refusal 1 0 (up ++ (nought ∷ [])) ≡ 11
  pub tool-far : tool_refusal 1 0 (link (vec (of_bits binary64 0x4024_0000_0000_0001) nought nought) (quat one nought nought nought)) ≡ 11
  pub tool-nan : tool_refusal 1 0 (link (vec nought nought nan) (quat one nought nought nought)) ≡ 11
  -- four chains' tools: none at all, one for chain 0, and one for chain 1 of a robot of one chain
  pub tools-none : tools_refusal 1 (bare 4) ≡ 0
  pub tools-first : tools_refusal 1 (tool up ++ bare 3) ≡ 0
  pub tools-unloaded : tools_refusal 1 (bare 1 ++ (tool up ++ bare 2)) ≡ 11
  -- each kind has its own: position, rotation, limits, velocity, acceleration, jerk, manipulability, pairs
  pub weights-by-kind : (p r l v a j m c : Float) → map (weight_of (p ∷ r ∷ l ∷ v ∷ a ∷ j ∷ m ∷ c ∷ []))
      (MatchEEPosiDoF 0 0 ∷ MatchEERotaDoF 0 0 ∷ EachJointLimits 0 ∷ MinimizeVelocity ∷ MinimizeAcceleration ∷ MinimizeJerk ∷ MaximizeManipulability ∷ SelfCollision 0 0 0 ∷ [])
      ≡ p ∷ r ∷ l ∷ v ∷ a ∷ j ∷ m ∷ c ∷ []
  -- a strict goal has the first two: position, then rotation, chain after chain; the limits stand behind all goals
  pub strict-weights : (p r : Float) (rest : List Float) → map (weight_of (p ∷ r ∷ rest)) (MatchEEPosGoals 0 ∷ MatchEEQuatGoals 0 ∷ []) ≡ p ∷ r ∷ []
  pub strict-list : objectives (picked_list strict) (2 ∷ 2 ∷ [])
      ≡ MatchEEPosGoals 0 ∷ MatchEEQuatGoals 0 ∷ MatchEEPosGoals 1 ∷ MatchEEQuatGoals 1
      ∷ EachJointLimits 0 ∷ EachJointLimits 1 ∷ EachJointLimits 2 ∷ EachJointLimits 3
      ∷ MinimizeVelocity ∷ MinimizeAcceleration ∷ MinimizeJerk ∷ MaximizeManipulability ∷ []
  -- 7 joints: 28 strict objectives; chains of 6 and 3: 28; the lists' lengths are the same
  pub seven-joints-strict : sizing_of strict (1 ∷ 7 ∷ []) (turning 7) (ups 7) ≡ Ok (record { positions = 24; rotations = 36; objectives = 28; entries = 35 })
  pub six-and-three-strict : sizing_of strict (2 ∷ 6 ∷ 3 ∷ []) (turning 9) (ups 9) ≡ Ok (record { positions = 33; rotations = 52; objectives = 28; entries = 36 })
  -- at the goal, turned as it is or by its negative, a strict goal costs -1; 3 by 4 away its distance is 5
  pub strict-there : pos_goals_loss (vec one two three) (vec one two three) ≡ neg one
  pub strict-turned : quat_goals_loss identity_of identity_of ≡ neg one
  pub strict-opposite : quat_goals_loss identity_of (quat (neg one) (neg nought) (neg nought) (neg nought)) ≡ neg one
  pub strict-distance : distance_from (vec nought nought nought) (vec three (whole 4) nought) ≡ whole 5
  -- half round z the angle is 3.1415926535897936, one float above pi, since the sine of a quarter turn is one below 1
  pub strict-half-turn : angle_from identity_of (quat nought nought nought one) ≡ of_bits binary64 0x4009_21fb_5444_2d19
  -- a NaN gives way to a number, first or second
  pub strict-nan : (min_of nan one ≡ one) × (min_of one nan ≡ one)

-- the poses are left as they are, and only the record around them is computed
poses-walked : (gs x : List Float) → record_poses four between-fixed gs x
    ≡ after gs x 65535 0 ++ (after gs x 65535 1 ++ (after gs x 65535 2 ++ (after gs x 65535 3
    ++ (after gs x 0 1 ++ (after gs x 0 2 ++ (after gs x 0 3 ++ (after gs x 1 2 ++ after gs x 1 3)))))))
unfolding record_poses record_of again_of pose_entry runs end_in joint_of joints_of has_joint flat flat_vec flat_quat
poses-walked gs x = refl

-- All of them, by computing both sides.
pub cases : Cases
unfolding record_joints record_links record_of again_of joint_entry link_entry again_at again_below entries_of end_in objectives goal_objectives limit_objective motion_objectives pair_objective all_pairs chain_pairs pairs_of pairs_from groove_loss swamp_loss scaled_of bounds_penalty power_of b_of power20_of squarings exp_of exp_series_of exp_term_of positions_of rotations_of chain_positions chain_rotations positions_from rotations_from position_at rotation_at runs pose_of before_of start_of after_link value_of link_of is_none offset_of signed_by along_of turn_of joint_turn about_of turned_by carried_of own_axis_of telescoped_of slid_of moved_of extended_of vec_at quat_at flat_vec flat_quat first_in total chain_start has_joint joints_of joint_of joints kind_at kind_of origin_of zero_of identity_of product_of axis_of twice_of rotate_of quat_x_of quat_y_of quat_z_of sine_of cosine_of whole_of turned_of reduced_of sine_series_of cosine_series_of series_of term_of sine_divisor cosine_divisor down_from root_of distance_of point_of closest_of ended_of inner_of add_of sub_of scale_of dot_of cross_of norm_of cut_of block_refusal history_refusal bad_history history_fits joint_range joint_fits value_fits link_value_fits block_fits bad_block every between within within_at squares_of near_one unit_at free_of ranged_pair pair_fits limits_fit bad_limits link_fits bad_floats load_refusal lowest lowest_from bad_sizes links_fit bad_lengths bad_codes listed_at listed_code listed_kind bad_joints two_joints later_fits chain_length weights_refusal bad_weights weight_fits_at weight_fits tip_of has_tool seven_fit tool_refusal bad_tool tools_refusal bad_tools tool_fits weight_of kind_number goal_width pos_goals_loss quat_goals_loss match_ee_pos_goals match_ee_quat_goals evaluate_of strict_loss min_of negative_of distance_from angle_from angle_between_quaternion quaternion_disp quaternion_log from_quaternion over_quat quat_norm acos_of acute_of opposite_of inverse_of abs_of atan2_of small_angle_of halved_of arc_series_of arc_term_of add sub mul div neg eq ne lt le of_int of_bits sizing_of planned_if refusal_of plan_of sizing_refusal positions_length rotations_length chain_lengths listed
cases = record {
  groove-centre = refl;
  swamp-centre = refl;
  turning-positions = refl;
  turning-rotations = refl;
  sliding = refl;
  sliding-back = refl;
  telescoping = refl;
  telescoping-turned = refl;
  sliding-unturned = refl;
  telescoping-back = refl;
  telescoping-offset = refl;
  telescoping-taken = refl;
  telescoping-unlisted = refl;
  telescoping-sized = refl;
  telescoping-links = refl;
  telescoping-joints = refl;
  telescoping-joint = refl;
  telescoping-refused = refl;
  history = λ a b c n. refl;
  seven-joints = refl;
  six-and-three = refl;
  seven-joints-sized = refl;
  six-and-three-sized = refl;
  record-count = refl;
  record-sized = refl;
  record-links = refl;
  record-joints = refl;
  record-poses = poses-walked;
  least-root = refl;
  parallel = refl;
  joint-taken = refl;
  joint-refused = refl;
  turning-taken = refl;
  turning-refused = refl;
  axisless-refused = refl;
  ring-and-slide = refl;
  slide-and-ring = refl;
  history-taken = refl;
  history-turn = refl;
  history-slide = refl;
  tie_down = refl;
  tie_up = refl;
  tie-negative = refl;
  unreduced-kept = (refl, refl);
  next-reduced = (refl, refl);
  turn-reduced = (refl, refl);
  none-reduced = (refl, refl, refl);
  ties-reduced = (refl, refl);
  raised-half = refl;
  raised-sine = refl;
  tie-turned = refl;
  one-joint = refl;
  one-joint-sized = refl;
  two-joints = refl;
  weights-taken = refl;
  weights-none = refl;
  weights-seven = refl;
  weights-nine = refl;
  weights-above = refl;
  weights-below = refl;
  weights-nan = refl;
  end-bare = refl;
  end-up = refl;
  end-turned = refl;
  end-offset = refl;
  end-skipped = refl;
  tool-taken = refl;
  tool-unloaded = refl;
  tool-none = refl;
  tool-six = refl;
  tool-eight = refl;
  tool-far = refl;
  tool-nan = refl;
  tools-none = refl;
  tools-first = refl;
  tools-unloaded = refl;
  weights-by-kind = λ p r l v a j m c. refl;
  strict-weights = λ p r rest. refl;
  strict-list = refl;
  seven-joints-strict = refl;
  six-and-three-strict = refl;
  strict-there = refl;
  strict-turned = refl;
  strict-opposite = refl;
  strict-distance = refl;
  strict-half-turn = refl;
  strict-nan = (refl, refl);
}
