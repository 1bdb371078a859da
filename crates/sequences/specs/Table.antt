-- Which list of a record is which: the one table of list numbers.
use Rattle.std.specs.Prelude.{cond, ℕ, ◌+◌, eqb}

-- the calls are 0 to the last one
abbrev pub last_call : ℕ
last_call = 14

-- how many they are
abbrev pub calls : ℕ
calls = last_call + 1

-- load
abbrev pub sizes_list : ℕ
sizes_list = 0

abbrev pub codes_list : ℕ
codes_list = sizes_list + 1

abbrev pub floats_list : ℕ
floats_list = codes_list + 1

abbrev pub limits_list : ℕ
limits_list = floats_list + 1

-- set_goals
abbrev pub goals_list : ℕ
goals_list = 0

-- set_weights
abbrev pub weights_list : ℕ
weights_list = 0

-- set_tool: the tool, and the chain's number
abbrev pub tool_list : ℕ
tool_list = 0

abbrev pub chain_list : ℕ
chain_list = tool_list + 1

-- every other call but `kept` has a joint block; frames, pose and manipulability have their outputs from here on
abbrev pub joints_list : ℕ
joints_list = 0

abbrev pub outputs : ℕ
outputs = joints_list + 1

-- the objective and its gradients have the pick before them
abbrev pub pick_list : ℕ
pick_list = joints_list + 1

abbrev pub objective_outputs : ℕ
objective_outputs = pick_list + 1

-- what the state keeps of its party, from here on
abbrev pub kept_lists : ℕ
kept_lists = 0

-- how many lists a record of step c has: 0 begins a sequence; 1 load, 2 set_goals, 3 reset, 4 update; 5 frames, 6 pose, 7 manipulability, 8 objective, 9 gradient,
-- 10 gradient_finite_diff, 11 gradient_one_block; 12 what the state keeps; 13 set_weights, 14 set_tool
unfoldable pub lists_of : ℕ → ℕ
lists_of c =
    cond (eqb c 0) 0 (cond (eqb c 1) 4 (cond (eqb c 2) 1 (cond (eqb c 3) 1 (cond (eqb c 4) 1 (cond (eqb c 5) 3
    (cond (eqb c 6) 2 (cond (eqb c 7) 2 (cond (eqb c 8) 3 (cond (eqb c 9) 5 (cond (eqb c 10) 5 (cond (eqb c 11) 8 (cond (eqb c 12) 6 (cond (eqb c 13) 1 2)))))))))))))
