-- The history of vars.rs: the current joint block and the three before it.
use Rattle.std.specs.Prelude.{List, ℕ, Float, replicate}
use Rattle.lists.specs.Splice.{splice}
use Rattle.standins.specs.Num.{nought}
use Rattle.groove.specs.declared.vars.History.{History}

-- a block of at most sixteen, zeros behind it
unfoldable pub padded : List Float → List Float
padded x = splice (replicate 16 nought) 0 x

-- reset: all four blocks are the start
abbrev pub reset_of : List Float → ℕ → History
reset_of x n = record { joints = n; xopt = x; prev_state = x; prev_state2 = x; prev_state3 = x }

-- update: the blocks move one back, and the fourth is dropped
abbrev pub update_of : History → List Float → History
update_of h x = record { joints = h.joints; xopt = x; prev_state = h.xopt; prev_state2 = h.prev_state; prev_state3 = h.prev_state2 }
