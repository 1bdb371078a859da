-- When a record agrees with what its call answers, by the call's number.
use Rattle.std.specs.Prelude.{Bool, cond, List, ℕ, eqb, ltb}
use Rattle.stored_answers.specs.Stored.{number_at}
use Rattle.replay_calls.specs.Arms.{load_agrees, set_goals_agrees, set_tool_agrees, sizing_agrees}
use Rattle.replay_calls.specs.Objectives.{set_weights_agrees, one_block_agrees}
use Rattle.replay_calls.specs.Outputs.{one_agrees, two_agree, three_agree}
use Rattle.replay.specs.Leaves.{leaf_agrees}
use Rattle.replay.specs.StrictLeaves.{strict_leaf_agrees}

-- all of them: 0 and 1 have no output, 10 is the gradient on one block, 11 to 40 and 44 to 50 are the leaves, 41 is sizing, 42 and 43 set weights and a tool and have no output
unfoldable pub call_agrees : ℕ → List ℕ → ℕ → Bool
call_agrees c s at =
    cond (eqb c 0) (load_agrees s at)
    (cond (eqb c 1) (set_goals_agrees s at)
    (cond (ltb c 6) (one_agrees c s at)
    (cond (ltb c 8) (two_agree c s at)
    (cond (ltb c 10) (three_agree c s at)
    (cond (eqb c 10) (one_block_agrees s at)
    (cond (eqb c 41) (sizing_agrees s at)
    (cond (eqb c 42) (set_weights_agrees s at)
    (cond (eqb c 43) (set_tool_agrees s at)
    (cond (ltb c 44) (leaf_agrees s at)
    (strict_leaf_agrees s at))))))))))

unfoldable pub record_agrees : List ℕ → ℕ → Bool
record_agrees s at = call_agrees (number_at s at) s at
