-- Which list of a record is which: the one table of list numbers. A byte call's lists are those of its parameters, in their
-- order, but for a pick: that comes before the outputs, which are last.
use Rattle.std.specs.Prelude.{cond, ℕ, ◌+◌, eqb, ltb}

-- the calls are 0 to the last one
abbrev pub last_call : ℕ
last_call = 50

abbrev pub calls : ℕ
calls = last_call + 1

-- every byte call but set_weights: the sheet, sizing without its limits
abbrev pub sizes_list : ℕ
sizes_list = 0

abbrev pub codes_list : ℕ
codes_list = sizes_list + 1

abbrev pub floats_list : ℕ
floats_list = codes_list + 1

abbrev pub limits_list : ℕ
limits_list = floats_list + 1

-- set_goals and the calls on the objective
abbrev pub goals_list : ℕ
goals_list = limits_list + 1

-- the calls on the objective
abbrev pub history_list : ℕ
history_list = goals_list + 1

abbrev pub weights_list : ℕ
weights_list = history_list + 1

-- four tools, by chain
abbrev pub tools_list : ℕ
tools_list = weights_list + 1

abbrev pub joints_list : ℕ
joints_list = tools_list + 4

abbrev pub pick_list : ℕ
pick_list = joints_list + 1

abbrev pub objective_outputs : ℕ
objective_outputs = pick_list + 1

-- update
abbrev pub update_history : ℕ
update_history = limits_list + 1

abbrev pub update_joints : ℕ
update_joints = update_history + 1

abbrev pub update_output : ℕ
update_output = update_joints + 1

-- pose, reset: four tools, by chain, before the joints
abbrev pub arm_tools_list : ℕ
arm_tools_list = limits_list + 1

abbrev pub pose_joints : ℕ
pose_joints = arm_tools_list + 4

abbrev pub pose_outputs : ℕ
pose_outputs = pose_joints + 1

-- manipulability, frames
abbrev pub arm_joints : ℕ
arm_joints = limits_list + 1

abbrev pub arm_outputs : ℕ
arm_outputs = arm_joints + 1

-- sizing
abbrev pub plan_pick : ℕ
plan_pick = floats_list + 1

abbrev pub plan_output : ℕ
plan_output = plan_pick + 1

-- set_weights
abbrev pub set_weights_list : ℕ
set_weights_list = 0

-- set_tool
abbrev pub tool_list : ℕ
tool_list = limits_list + 1

abbrev pub chain_list : ℕ
chain_list = tool_list + 1

-- a leaf: the floats asked, the floats answered
abbrev pub asked_list : ℕ
asked_list = 0

abbrev pub answered_list : ℕ
answered_list = asked_list + 1

-- the first output of call c: load, set_goals, then those above
unfoldable pub outputs_from : ℕ → ℕ
outputs_from c =
    cond (eqb c 0) (limits_list + 1) (cond (eqb c 1) (goals_list + 1) (cond (eqb c 2) pose_outputs (cond (eqb c 3) arm_outputs (cond (eqb c 4) update_output (cond (eqb c 5) objective_outputs
    (cond (eqb c 6) arm_outputs (cond (eqb c 7) pose_outputs (cond (eqb c 8) objective_outputs (cond (eqb c 9) objective_outputs (cond (eqb c 10) objective_outputs
    (cond (eqb c 41) plan_output (cond (eqb c 42) (set_weights_list + 1) (cond (eqb c 43) (chain_list + 1) answered_list)))))))))))))

-- and how many it has: 0, 1, 42 and 43 none, a leaf one
unfoldable pub outputs_of : ℕ → ℕ
outputs_of c = cond (ltb c 2) 0 (cond (ltb c 6) 1 (cond (ltb c 8) 2 (cond (ltb c 10) 3 (cond (eqb c 10) 5 (cond (ltb c 42) 1 (cond (ltb c 44) 0 1))))))

-- how many lists a record of call c has
unfoldable pub lists_of : ℕ → ℕ
lists_of c = outputs_from c + outputs_of c
