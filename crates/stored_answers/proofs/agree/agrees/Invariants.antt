-- `agrees` meets its contract: while the outputs passed are the same, those behind them decide.
use Rattle.std.proofs.Common.{◌≡◌, ◌+◌, map, drop}
use Rattle.stored_answers.specs.Agree.{answer_agrees, outputs_agree}
use Rattle.stored_answers.proofs.agree.agrees.Given as goal

abbrev pub invariant-loop-i : goal.invariant-loop-i
invariant-loop-i l = answer_agrees l.r.s.now l.r.at l.number l.k (map (λ o. o.now) l.outputs) ≡ outputs_agree l.r.s.now l.r.at (l.k + l.i) (map (λ o. o.now) (drop l.i l.outputs))
